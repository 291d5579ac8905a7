-- Lists that the code reads in a loop.
use Rattle.std.proofs.Common.{◌≡◌, ◌+◌, ℕ, zero, suc, drop, List, [], ◌∷◌, ◌++◌, Option, Some, None, map, reverse, refl, sym, ap, ◌∙◌}
use Rattle.std.proofs.lemmas.List.{map-append, reverse-append}
use Rattle.serde_json.specs.Data.{Data}
use Rattle.serde_json.specs.View.{view}
use Rattle.serde_json.specs.declared.value.Value.{Value}
use Rattle.gl_base.specs.Answers.{◌>>=◌}
use Rattle.gl_base.specs.Reading.{read_all}
use Rattle.gl_base.specs.Texts.{Text}
use Rattle.gl_base.proofs.Lists.{read_all-map}
use Rattle.gl_wirein.specs.Fault.{Fails}
use Rattle.gl_wirein.specs.Pieces.{list_in}
use Rattle.gl_wirein.specs.ReadRows.{State, add_row, read_rows}
use Rattle.gl_wirein.specs.declared.fault.WireFault.{WireFault}
use Rattle.gl_wirein.specs.declared.fault.WireFault.TheVariants as v

-- what leaves nothing to read of a part leaves nothing to read of the whole
pub fails_on : {Y Z : Type 0} (e : WireFault) (part : Option Y) (whole : Option Z) → (part ≡ None → whole ≡ None) → Fails e part → Fails e whole
fails_on v.BadWire part whole step h = step h
fails_on v.Memory part whole step h = tt

-- one more row is read
pub row_read : (ss : List Text) (xs rest : List Value) (x : Value) (old new : State) → xs ≡ x ∷ rest → read_rows ss (map view rest) ≡ Some old → add_row ss (view x) old ≡ Some new → read_rows ss (map view xs) ≡ Some new
row_read ss xs rest x old new is read adds = ap (λ ys. read_rows ss (map view ys)) is ∙ ap (λ (o : Option State). o >>= λ state. add_row ss (view x) state) read ∙ adds

row_fails : (ss : List Text) (xs rest : List Value) (x : Value) (old : State) → xs ≡ x ∷ rest → read_rows ss (map view rest) ≡ Some old → add_row ss (view x) old ≡ None → read_rows ss (map view xs) ≡ None
row_fails ss xs rest x old is read adds = ap (λ ys. read_rows ss (map view ys)) is ∙ ap (λ (o : Option State). o >>= λ state. add_row ss (view x) state) read ∙ adds

-- where the last rows can't be read, all can't
none_of : (ss : List Text) (i : ℕ) (xs : List Value) → read_rows ss (map view (drop i xs)) ≡ None → read_rows ss (map view xs) ≡ None
none_of ss zero xs e = e
none_of ss (suc i) [] e = e
none_of ss (suc i) (x ∷ xs) e = ap (λ (o : Option State). o >>= λ state. add_row ss (view x) state) (none_of ss i xs e)

pub rows_fail : (ss : List Text) (xs : List Value) (i : ℕ) (x : Value) (old : State) → drop i xs ≡ x ∷ drop (i + 1) xs → read_rows ss (map view (drop (i + 1) xs)) ≡ Some old → add_row ss (view x) old ≡ None → read_rows ss (map view xs) ≡ None
rows_fail ss xs i x old is read adds = none_of ss i xs (row_fails ss (drop i xs) (drop (i + 1) xs) x old is read adds)

reverse-cons : {A : Type 0} (x : A) (xs : List A) → reverse (x ∷ xs) ≡ reverse xs ++ x ∷ []
reverse-cons x xs = reverse-append (x ∷ []) xs

pub map-reverse : {A B : Type 0} (f : A → B) (xs : List A) → map f (reverse xs) ≡ reverse (map f xs)
map-reverse f [] = refl
map-reverse f (x ∷ xs) = ap (λ ys. map f ys) (reverse-cons x xs) ∙ map-append f (reverse xs) (x ∷ []) ∙ ap (λ ys. ys ++ f x ∷ []) (map-reverse f xs) ∙ sym (reverse-cons (f x) (map f xs))

-- what the values of an array read as
pub in_items : {A : Type 0} (inner : Data → Option A) (d : Data) (vs : List Value) (o : Option (List A)) → list_in d ≡ Some (map view vs) → read_all (λ v. inner (view v)) vs ≡ o → (list_in d >>= λ ds. read_all inner ds) ≡ o
in_items {A} inner d vs o e f = ap (λ (p : Option (List Data)). p >>= λ ds. read_all inner ds) e ∙ read_all-map inner view vs ∙ f
