-- The grammar of models as readers (NuSMV 2.6 User Manual, 2.3).
use Rattle.std.specs.Prelude.{ℕ, ℤ, pos, ◌-ℤ◌, true, false, Bool, cond, Option, Some, None, suc, length, List, [], ◌∷◌}
use Rattle.text_core.specs.declared.place.Place.{Place}
use Rattle.smv_text.specs.declared.token.Reserved.{Reserved}
use Rattle.smv_text.specs.declared.token.Reserved.TheVariants as words
use Rattle.smv_text.specs.declared.token.Sign.{Sign}
use Rattle.smv_text.specs.declared.token.Sign.TheVariants as signs
use Rattle.smv_text.specs.declared.token.Token.{Token}
use Rattle.smv_text.specs.declared.token.TokenKind.{TokenKind}
use Rattle.smv_text.specs.declared.token.TokenKind.TheVariants as kind
use Rattle.smv_text.specs.declared.tree.Path.{Path}
use Rattle.smv_text.specs.declared.tree.Member.{Member}
use Rattle.smv_text.specs.declared.tree.Member.TheVariants.{Symbol, Integer}
use Rattle.smv_text.specs.declared.tree.VarKind.{VarKind}
use Rattle.smv_text.specs.declared.tree.VarKind.TheVariants.{State, Input, Frozen}
use Rattle.smv_text.specs.declared.tree.When.{When}
use Rattle.smv_text.specs.declared.tree.When.TheVariants.{Always, First, Following}
use Rattle.smv_text.specs.declared.tree.Parameter.{Parameter}
use Rattle.smv_text.specs.Tree.{Tree, trees_of, PlainDomain, boolean, members, between, bits, instance, PlainItem, PlainDefinition, PlainAssignment, PlainElement, vars, defines, constants, assigns, init, trans, invar, spec, PlainModule}
use Rattle.smv_grammar.specs.Marks.{is_sign, is_word}
use Rattle.smv_grammar.specs.Readers.{Reading, found, died, Reader, Pick, nothing, fail, one, both, mapped, either, many, placed, counted, expression}

abbrev pub name_of : TokenKind → Option (List ℕ)
name_of (kind.Ident n) = Some n
name_of _ = None

abbrev pub number_of : TokenKind → Option ℕ
number_of (kind.Number n) = Some n
number_of _ = None

abbrev pub mark : Bool → Option (Unit {0})
mark true = Some tt
mark false = None

abbrev pub sign : Sign → Reader (Unit {0} × Place)
sign s = one (λ k. mark (is_sign s k))

abbrev pub word : Reserved → Reader (Unit {0} × Place)
word w = one (λ k. mark (is_word w k))

abbrev pub name : Reader (List ℕ × Place)
name = one name_of

abbrev pub number : Reader (ℕ × Place)
number = one number_of

-- what is behind this sign
abbrev pub behind : {A : Type 0} → Sign → Reader A → Pick A
behind s r k p = cond (is_sign s k) (Some r) None

-- one or more with commas between them, and the sign that ends them
unfoldable pub listed : {A : Type 0} → Reader A → Sign → Reader (List A)
listed r s = mapped (λ q. q.0 ∷ q.1.0) (both r (both (many (behind signs.Comma r)) (sign s)))

-- none, or what is in round brackets
unfoldable pub bracketed : {A : Type 0} → Reader A → Reader (List A)
bracketed r = either (behind signs.Open (either (behind signs.Close (nothing [])) (listed r signs.Close))) (nothing [])

-- a name without its place
unfoldable pub symbol : Reader (List ℕ)
symbol = mapped (λ q. q.0) name

unfoldable pub parameter : Reader Parameter
parameter = mapped (λ q. record { name = q.0; place = q.1 }) name

abbrev pub integer_pick : Pick ℤ
integer_pick (kind.Number n) p = Some (nothing (pos n))
integer_pick (kind.Sign signs.Minus) p = Some (mapped (λ q. pos 0 -ℤ pos q.0) number)
integer_pick _ p = None

unfoldable pub integer : Reader ℤ
integer = either integer_pick fail

abbrev pub symbol_pick : Pick Member
symbol_pick (kind.Ident n) p = Some (nothing (Symbol n))
symbol_pick _ p = None

unfoldable pub member : Reader Member
member = either symbol_pick (mapped Integer integer)

-- `[n]`
unfoldable pub width : Reader ℕ
width = mapped (λ q. q.1.0.0) (both (sign signs.OpenBracket) (both number (sign signs.CloseBracket)))

unfoldable pub interval : Reader PlainDomain
interval = mapped (λ q. between q.0 q.1.1) (both integer (both (sign signs.Range) integer))

abbrev pub instance_pick : VarKind → List ℕ → Option (Reader PlainDomain)
instance_pick State n = Some (mapped (λ ts. instance n (trees_of ts)) (bracketed expression))
instance_pick Input n = None
instance_pick Frozen n = None

abbrev pub domain_pick : VarKind → Pick PlainDomain
domain_pick k (kind.Reserved words.Boolean) p = Some (nothing boolean)
domain_pick k (kind.Reserved words.Unsigned) p = Some (mapped (λ q. bits q.1) (both (word words.Word) width))
domain_pick k (kind.Reserved words.Word) p = Some (mapped bits width)
domain_pick k (kind.Sign signs.OpenBrace) p = Some (mapped members (listed member signs.CloseBrace))
domain_pick k (kind.Ident n) p = instance_pick k n
domain_pick k _ p = None

-- what a variable ranges over
unfoldable pub domain : VarKind → Reader PlainDomain
domain k = either (domain_pick k) interval

-- the rest of a declaration, behind its name
unfoldable pub item : VarKind → List ℕ → Place → Reader PlainItem
item k n p = mapped (λ q. record { name = n; place = p; domain = q.1.0.1; domain_place = q.1.0.0 }) (both (sign signs.Colon) (both (placed (domain k)) (sign signs.Semicolon)))

abbrev pub item_pick : VarKind → Pick PlainItem
item_pick k (kind.Ident n) p = Some (item k n p)
item_pick k _ p = None

-- what is assigned, behind a name
unfoldable pub body : Reader Tree
body = mapped (λ q. q.1.0) (both (sign signs.Assign) (both expression (sign signs.Semicolon)))

abbrev pub definition_pick : Pick PlainDefinition
definition_pick (kind.Ident n) p = Some (mapped (λ t. record { name = n; place = p; body = t }) body)
definition_pick _ p = None

unfoldable pub steps : Reader (List (List ℕ))
steps = many (behind signs.Dot symbol)

abbrev pub path_pick : Pick Path
path_pick (kind.Ident n) p = Some (mapped (λ ns. record { from_self = false; names = n ∷ ns; place = p }) steps)
path_pick (kind.Reserved words.Itself) p = Some (mapped (λ ns. record { from_self = true; names = ns; place = p }) steps)
path_pick _ p = None

unfoldable pub path : Reader Path
path = either path_pick fail

-- a path in round brackets
unfoldable pub enclosed : When → Reader (When × Path)
enclosed w = mapped (λ q. (w, q.1.0)) (both (sign signs.Open) (both path (sign signs.Close)))

abbrev pub always : Option (Reader Path) → Option (Reader (When × Path))
always None = None
always (Some r) = Some (mapped (λ q. (Always, q)) r)

-- the left side of an assignment
abbrev pub target_pick : Pick (When × Path)
target_pick (kind.Reserved words.Initial) p = Some (enclosed First)
target_pick (kind.Reserved words.Next) p = Some (enclosed Following)
target_pick k p = always (path_pick k p)

abbrev pub assigned : Option (Reader (When × Path)) → Option (Reader PlainAssignment)
assigned None = None
assigned (Some r) = Some (mapped (λ q. record { when = q.0.0; target = q.0.1; body = q.1 }) (both r body))

abbrev pub assignment_pick : Pick PlainAssignment
assignment_pick k p = assigned (target_pick k p)

-- a semicolon, or nothing
unfoldable pub optional : Reader (Unit {0})
optional = either (behind signs.Semicolon (nothing tt)) (nothing tt)

unfoldable pub constraint : Reader Tree
constraint = mapped (λ q. q.0) (both expression optional)

abbrev pub label_pick : Pick (Option (List ℕ))
label_pick (kind.Reserved words.Name) p = Some (mapped (λ q. Some q.0.0) (both name (sign signs.Assign)))
label_pick _ p = None

-- the name of an invariant, or nothing
unfoldable pub label : Reader (Option (List ℕ))
label = either label_pick (nothing None)

abbrev pub element_pick : Pick PlainElement
element_pick (kind.Reserved words.Var) p = Some (mapped (vars State) (many (item_pick State)))
element_pick (kind.Reserved words.Ivar) p = Some (mapped (vars Input) (many (item_pick Input)))
element_pick (kind.Reserved words.Frozenvar) p = Some (mapped (vars Frozen) (many (item_pick Frozen)))
element_pick (kind.Reserved words.Define) p = Some (mapped defines (many definition_pick))
element_pick (kind.Reserved words.Constants) p = Some (mapped constants (listed symbol signs.Semicolon))
element_pick (kind.Reserved words.Assign) p = Some (mapped assigns (many assignment_pick))
element_pick (kind.Reserved words.Init) p = Some (mapped init constraint)
element_pick (kind.Reserved words.Trans) p = Some (mapped trans constraint)
element_pick (kind.Reserved words.Invar) p = Some (mapped invar constraint)
element_pick (kind.Reserved words.Invarspec) p = Some (mapped (λ q. spec q.0 q.1) (both label constraint))
element_pick _ p = None

-- a module, behind its first word
unfoldable pub module_rest : Reader PlainModule
module_rest =
    mapped (λ q. record { name = q.0.0; place = q.0.1; parameters = q.1.0; elements = q.1.1.1; tokens = q.1.1.0 })
    (both name (both (bracketed parameter) (counted (many element_pick))))

abbrev pub module_pick : Pick PlainModule
module_pick (kind.Reserved words.Module) p = Some module_rest
module_pick _ p = None

abbrev pub ended : Reading (List PlainModule) → Reading (List PlainModule)
ended (found ms h []) = found ms h []
ended (found ms h (x ∷ xs)) = died (suc (length xs))
ended (died n) = died n

-- all modules, and nothing behind them
unfoldable pub model : List Token → Reading (List PlainModule)
model xs = ended (many module_pick None xs)
