-- What a name keeps in place.
use Rattle.std.specs.Prelude.{ℕ, ◌≡◌, ◌≤◌, List, length, take}
use Rattle.text_core.specs.declared.name.Content.{Content}
use Rattle.text_core.specs.declared.name.Content.TheVariants.{Short, Long}

-- the bytes of a name
abbrev pub content_bytes : Content → List ℕ
content_bytes (Short n room) = take n room
content_bytes (Long bytes) = bytes.value.items

-- a short name has no more bytes than its room
abbrev pub IsSound : Content → Type 0
IsSound (Short n room) = (n ≤ 22) × (length room ≡ 22)
IsSound (Long bytes) = Unit {0}
