-- Values that keep the bounds and the order of keys.
use Rattle.std.proofs.Common.{◌≡◌, ℕ, List, [], ◌∷◌, ◌++◌, map, refl, ap}
use Rattle.std.specs.Prelude.{String, string_bytes}
use Rattle.std.specs.Cmp.Lexicographic.{slice_cmp}
use Rattle.std.specs.declared.alloc.Global.{Global}
use Rattle.std.specs.declared.cmp.Ordering.TheVariants.{Less}
use Rattle.std.specs.List.{AllByRecursion}
use Rattle.std.specs.List.Sorted.{IsStrictlySortedBy}
use Rattle.std.specs.Map.{keys_of}
use Rattle.std.specs.Ordering.{nat_cmp}
use Rattle.std.specs.Str.{chars}
use Rattle.std.proofs.lemmas.Map.Keys.{sorted_head, sorted_tail}
use Rattle.std.proofs.lemmas.Str.{encodes-chars, IsUtf8-string_bytes}
use Rattle.serde_json.specs.Data.{Data}
use Rattle.serde_json.specs.View.{members_of as json_members}
use Rattle.gl_base.specs.Texts.{Text}
use Rattle.gl_value.specs.Json.{members_of}
use Rattle.gl_value.specs.Value.{Value, values_of, pairs_of}
use Rattle.gl_value.specs.Proper.{Keeps, KeepAll, KeepMembers, IsBefore}

-- each value does
abbrev pub KeepValues : {O : Type 0} → List (Text × Value O) → Type 0
KeepValues [] = Unit {0}
KeepValues (p ∷ ps) = Keeps p.1 × KeepValues ps

pub KeepAll-append : {O : Type 0} (vs : List (Value O)) (v : Value O) → KeepAll (values_of vs) → Keeps v → KeepAll (values_of (vs ++ v ∷ []))
KeepAll-append [] v h k = (k, tt)
KeepAll-append (w ∷ vs) v h k = (h.0, KeepAll-append vs v h.1 k)

pub KeepValues-append : {O : Type 0} (ps : List (Text × Value O)) (p : Text × Value O) → KeepValues ps → Keeps p.1 → KeepValues (ps ++ p ∷ [])
KeepValues-append [] p h k = (k, tt)
KeepValues-append (q ∷ ps) p h k = (h.0, KeepValues-append ps p h.1 k)

-- a key is before those after it
first_key : (k : String Global) (v : Data) (es : List (String Global × Data)) → AllByRecursion (λ (y : String Global). slice_cmp nat_cmp (string_bytes k) (string_bytes y) ≡ Less) (keys_of es) → IsBefore (chars (string_bytes k)) (pairs_of (members_of {O = ℕ} (json_members es)))
first_key k v [] h = tt
first_key k v (e ∷ es) h =
    let one = encodes-chars (string_bytes k) (IsUtf8-string_bytes k) in
    let two = encodes-chars (string_bytes e.0) (IsUtf8-string_bytes e.0) in
    rw (one, two, h.0) refl

-- what is read of a map's members keeps their order
pub keeps_members : (es : List (String Global × Data)) (ps : List (Text × Value ℕ)) → IsStrictlySortedBy (λ (x y : String Global). slice_cmp nat_cmp (string_bytes x) (string_bytes y)) (keys_of es) → ps ≡ members_of (json_members es) → KeepValues ps → KeepMembers (pairs_of ps)
keeps_members [] [] sorted e h = tt
keeps_members [] (p ∷ ps) sorted e h = cc
keeps_members (m ∷ es) [] sorted e h = cc
keeps_members (m ∷ es) (p ∷ ps) sorted e h =
    let key : p.0 ≡ chars (string_bytes m.0) = cc in
    let rest : ps ≡ members_of (json_members es) = cc in
    let first = first_key m.0 m.1 es (sorted_head _ m.0 (keys_of es) sorted) in
    (rw (key, rest) first, h.0, keeps_members es ps (sorted_tail _ m.0 (keys_of es) sorted) rest h.1)

pub keys-seen : {K A B : Type 0} (f : A → B) (es : List (K × A)) → keys_of (map (λ (m : K × A). (m.0, f m.1)) es) ≡ keys_of es
keys-seen f [] = refl
keys-seen f (e ∷ es) = ap (λ l. e.0 ∷ l) (keys-seen f es)
