-- To which definitions and actuals an expression leads.
use Rattle.std.specs.Prelude.{ℕ, ◌==◌, ◌&&◌, Bool, false, List, [], bytes_eq}
use Rattle.std.specs.List.{list_any}
use Rattle.smv_text.specs.Tree.{Tree}
use Rattle.smv_meaning.specs.Expressions.{paths_of}
use Rattle.smv_meaning.specs.Instances.{Instance}
use Rattle.smv_meaning.specs.Names.{Local, body_of, Found, body_at, found_in}

-- this definition or actual was found
abbrev pub is_body_of : ℕ → List ℕ → Found → Bool
is_body_of k x (body_at i y j e) = i == k && bytes_eq y x
is_body_of k x m = false

-- a path of an expression leads to it
abbrev pub leads_to : List Instance → ℕ → Tree → ℕ → List ℕ → Bool
leads_to t i e k x = list_any (λ q. is_body_of k x (found_in t i q)) (paths_of e [])

abbrev pub local_leads_to : List Instance → Local → ℕ → List ℕ → Bool
local_leads_to t (body_of j e) k x = leads_to t j e k x
local_leads_to t l k x = false
