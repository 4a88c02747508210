-- Values of names in rows.
use Rattle.std.specs.Prelude.{◌≡◌, ℕ, ◌+◌, ◌*◌, ◌%◌, Bool, ◌&&◌, ◌==◌, if◌then◌else◌, List, [], ◌∷◌, length, Option, Some, None, slice_get, bytes_eq}
use Rattle.std.specs.Option.{option_or}
use Rattle.name_maps.specs.declared.buckets.NamedValue.{NamedValue}
use Rattle.name_maps.specs.declared.buckets.Bucket.{Bucket}
use Rattle.name_maps.specs.declared.rows.NameRows.{NameRows}
use Rattle.name_maps.specs.declared.instance_rows.InstanceRows.{InstanceRows}
use Rattle.name_maps.specs.Sorted.{sorted_named}

-- a number made of the bytes of a name, from this one on
abbrev pub number_on : ℕ → List ℕ → ℕ
number_on h [] = h
number_on h (b ∷ bs) = number_on ((h * 16777619 + b) % 4294967296) bs

-- the row is of this name in the numbered instance
abbrev pub is_row_of : {V : Type 0} → NamedValue V → ℕ → List ℕ → Bool
is_row_of r i x = r.instance == i && bytes_eq r.name.now x

abbrev pub or_row : {V : Type 0} → Option V → Bool → V → Option V
or_row (Some v) b w = Some v
or_row None b w = if b then Some w else None

-- the value that a name was given last
abbrev pub last_named : {V : Type 0} → List (NamedValue V) → ℕ → List ℕ → Option V
last_named [] i x = None
last_named (r ∷ rs) i x = or_row (last_named rs i x) (is_row_of r i x) r.value

-- a row, where there is one, and the rows behind it
abbrev pub rows_of : {V : Type 0} → Option (NamedValue V) → List (NamedValue V) → List (NamedValue V)
rows_of None rest = rest
rows_of (Some r) rest = r ∷ rest

-- the value that a name was given last in a bucket
abbrev pub held_named : {V : Type 0} → Bucket V → ℕ → List ℕ → Option V
held_named b i x = last_named (rows_of b.first (rows_of b.second b.rest.items)) i x

abbrev pub bucket_named : {V : Type 0} → Option (Bucket V) → ℕ → List ℕ → Option V
bucket_named None i x = None
bucket_named (Some b) i x = held_named b i x

-- the value of a name in the numbered instance among buckets
abbrev pub buckets_named : {V : Type 0} → List (Bucket V) → ℕ → List ℕ → Option V
buckets_named bs i x = bucket_named (slice_get bs (number_on (i % 4294967296) x % length bs)) i x

-- the buckets with this value for the name, or as they were where the value is left over
abbrev pub TakesRow : {V : Type 0} → Option V → ℕ → List ℕ → V → List (Bucket V) → List (Bucket V) → Type 0
TakesRow None n name v old new = (i : ℕ) (x : List ℕ) → buckets_named new i x ≡ (if n == i && bytes_eq name x then Some v else buckets_named old i x)
TakesRow (Some left) n name v old new = (left ≡ v) × (new ≡ old)

-- the value of a name in the numbered instance: the one outside the buckets was set later
unfoldable pub row_in : {V : Type 0} → InstanceRows V → ℕ → List ℕ → Option V
row_in m i x = option_or (sorted_named m.others i x) (buckets_named m.buckets i x)

-- the value of a name
abbrev pub row_named : {V : Type 0} → NameRows V → List ℕ → Option V
row_named m x = row_in m.rows 0 x
