-- The items of a list with their keys, as the entries that are rendered.
use Rattle.std.proofs.Common.{◌≡◌, ℕ, suc, List, [], ◌∷◌, ◌++◌, map, reverse, add-one, refl, sym, ◌∙◌, ap, ap₂}
use Rattle.std.specs.List.{zip, enumerate_from}
use Rattle.std.proofs.lemmas.List.{map-append, reverse-reverse, reverse-append}
use Rattle.gl_base.specs.Texts.{Text}
use Rattle.gl_value.specs.Value.{plain, Value as V, values_of, key_of}
use Rattle.gl_value.specs.Owners.{values_with}
use Rattle.gl_value.specs.View.{view, seen_items}
use Rattle.gl_value.specs.declared.value.Value.{Value}
use Rattle.gl_ast.specs.Template.{Plain}
use Rattle.gl_ast.specs.ExprCode.{unowned, unowned-owned}
use Rattle.gl_meaning.specs.Render.{Entry as PlainEntry, occurrences, entries}
use Rattle.gl_each.specs.Key as k
use Rattle.gl_each.specs.View.{key_view, seen_keys}
use Rattle.gl_each.specs.declared.key.Key.{Key}
use Rattle.gl_vm.specs.Labels.{owner_path, labelled}
use Rattle.gl_code.specs.Entries.{seen_entry, seen_left}
use Rattle.gl_code.specs.declared.entries.Entry.{Entry}

map-reverse : {A B : Type 0} (f : A → B) (xs : List A) → map f (reverse xs) ≡ reverse (map f xs)
map-reverse f [] = refl
map-reverse f (x ∷ xs) =
    ap (map f) (reverse-append (x ∷ []) xs) ∙ (map-append f (reverse xs) (x ∷ []) ∙ (ap (λ ys. ys ++ f x ∷ []) (map-reverse f xs) ∙ sym (reverse-append (f x ∷ []) (map f xs))))

-- the items in order, where the code has them the other way round
pub left_of : (es fs : List Entry) → fs ≡ reverse es → seen_left fs ≡ map seen_entry es
left_of es fs e = ap seen_left e ∙ (ap reverse (map-reverse seen_entry es) ∙ reverse-reverse (map seen_entry es))

-- the one that is last is the next
pub next_left : (es fs : List Entry) (e : Entry) → es ≡ fs ++ e ∷ [] → seen_left es ≡ seen_entry e ∷ seen_left fs
next_left es fs e is = ap seen_left is ∙ (ap reverse (map-append seen_entry fs (e ∷ [])) ∙ reverse-append (map seen_entry fs) (seen_entry e ∷ []))

abbrev pub entry_with : ℕ × (Key × Value) → Entry
entry_with p = record { key = p.1.0.value; occurrence = p.1.0.occurrence; value = p.1.1; index = p.0 }

first_key : (a b : k.Key) (ks ls : List k.Key) → a ∷ ks ≡ b ∷ ls → a ≡ b
first_key a b ks ls e = cc

other_keys : (a b : k.Key) (ks ls : List k.Key) → a ∷ ks ≡ b ∷ ls → ks ≡ ls
other_keys a b ks ls e = cc

entries_from : (t : Text) (i : ℕ) (before : List Plain) (ks : List Key) (vs : List Value) → seen_keys ks ≡ k.entry_keys (entries t i before (values_with owner_path (values_of (seen_items vs))))
    → map seen_entry (map entry_with (enumerate_from i (zip ks vs))) ≡ entries t i before (values_with owner_path (values_of (seen_items vs)))
entries_from t i before [] [] e = refl
entries_from t i before [] (v ∷ vs) e = absurd (cc)
entries_from t i before (x ∷ ks) [] e = absurd (cc)
entries_from t i before (x ∷ ks) (v ∷ vs) e =
    let w : PlainEntry = record { key = key_of t i (labelled (view v)); occurrence = occurrences (key_of t i (labelled (view v))) before; value = labelled (view v); index = i } in
    let after = entries t (suc i) (key_of t i (labelled (view v)) ∷ before) (values_with owner_path (values_of (seen_items vs))) in
    let h : key_view x ≡ k.entry_key w = first_key (key_view x) (k.entry_key w) (seen_keys ks) (k.entry_keys after) e in
    let value : plain (view x.value) ≡ w.key = ap (λ (y : k.Key). unowned y.0) h ∙ unowned-owned w.key in
    let occurrence : x.occurrence ≡ w.occurrence = ap (λ (y : k.Key). y.1) h in
    ap₂ (λ y ys. y ∷ ys) (ap₂ (λ a b. record { key = a; occurrence = b; value = labelled (view v); index = i }) value occurrence)
    (ap (λ j. map seen_entry (map entry_with (enumerate_from j (zip ks vs)))) (add-one i)
    ∙ entries_from t (suc i) (key_of t i (labelled (view v)) ∷ before) ks vs (other_keys (key_view x) (k.entry_key w) (seen_keys ks) (k.entry_keys after) e))

-- the items with the keys that the list's items have
pub entries_made : (t : Text) (vs : List (V ℕ)) (ks : List Key) (ws : List Value) (es fs : List Entry) → seen_keys ks ≡ k.entry_keys (entries t 0 [] (values_with owner_path (values_of vs)))
    → seen_items ws ≡ vs → es ≡ map entry_with (enumerate_from 0 (zip ks ws)) → fs ≡ reverse es → seen_left fs ≡ entries t 0 [] (values_with owner_path (values_of vs))
entries_made t vs ks ws es fs e w m r =
    left_of es fs r
    ∙ (ap (map seen_entry) m
    ∙ (entries_from t 0 [] ks ws (e ∙ ap (λ us. k.entry_keys (entries t 0 [] (values_with owner_path (values_of us)))) (sym w)) ∙ ap (λ us. entries t 0 [] (values_with owner_path (values_of us))) w))
