-- Two values of JSON are the same just where they are equal, but for floats.
use Rattle.std.proofs.Common.{◌≡◌, ℕ, suc, List, [], ◌∷◌, length, Bool, true, false, ◌||◌, true≢false, refl, sym, ap, ap₂, ◌∙◌, eqb, eq-eqb, arith}
use Rattle.std.specs.Prelude.{◌&&◌}
use Rattle.std.specs.Cmp.{booleans_Decides}
use Rattle.std.proofs.lemmas.Bool.Decides.{Decides-int_eq, nat_tests}
use Rattle.std.proofs.lemmas.Slice.Eq.{bytes_eq-Decides}
use Rattle.serde_json.specs.Data.{Num, unsigned, negative, float, Data, null, boolean, number, string, array, object, Items, no_items, item, Members, no_members, member}
use Rattle.serde_json.specs.View.{view, items_view}
use Rattle.serde_json.specs.declared.value.Value.{Value}
use Rattle.serde_json.specs.Written.{has_float, items_have_float, members_have_float}
use Rattle.gl_value.proofs.Sameness.{both_left, both_right, both_true}
use Rattle.gl_wirein.specs.Same.{same_number, same, same_items, same_members}

naturals_mean : (a b : ℕ) → eqb a b ≡ true → a ≡ b
naturals_mean a b e = grind (arith, nat_tests)

number_means : (a b : Num) → same_number a b ≡ true → a ≡ b
number_means (unsigned a) (unsigned b) e = ap unsigned (naturals_mean a b e)
number_means (negative a) (negative b) e = ap negative ((Decides-int_eq a b).0 e)
number_means _ _ e = absurd (true≢false (sym e))

mutual
  pub same_means : (d e : Data) → same d e ≡ true → d ≡ e
  same_means null null s = refl
  same_means (boolean a) (boolean b) s = ap boolean ((booleans_Decides a b).0 s)
  same_means (number a) (number b) s = ap number (number_means a b s)
  same_means (string a) (string b) s = ap string ((bytes_eq-Decides a b).0 s)
  same_means (array ds) (array es) s = ap array (items_mean ds es s)
  same_means (object ms) (object ns) s = ap object (members_mean ms ns s)
  same_means _ _ s = absurd (true≢false (sym s))

  items_mean : (ds es : Items) → same_items ds es ≡ true → ds ≡ es
  items_mean no_items no_items s = refl
  items_mean (item d ds) (item e es) s = ap₂ item (same_means d e (both_left _ _ s)) (items_mean ds es (both_right (same d e) _ s))
  items_mean _ _ s = absurd (true≢false (sym s))

  members_mean : (ms ns : Members) → same_members ms ns ≡ true → ms ≡ ns
  members_mean no_members no_members s = refl
  members_mean (member k d ms) (member l e ns) s =
      let first = both_left _ (same_members ms ns) s in
      ap (λ (x : List ℕ). member x d ms) ((bytes_eq-Decides k l).0 (both_left _ _ first)) ∙ ap (λ (x : Data). member l x ms) (same_means d e (both_right _ (same d e) first))
      ∙ ap (λ (x : Members). member l e x) (members_mean ms ns (both_right _ (same_members ms ns) s))
  members_mean _ _ s = absurd (true≢false (sym s))

neither_left : (a b : Bool) → (a || b) ≡ false → a ≡ false
neither_left false b e = refl
neither_left true b e = absurd (true≢false e)

neither_right : (a b : Bool) → (a || b) ≡ false → b ≡ false
neither_right false b e = e
neither_right true b e = absurd (true≢false e)

mutual
  pub same_itself : (d : Data) → has_float d ≡ false → same d d ≡ true
  same_itself null h = refl
  same_itself (boolean a) h = (booleans_Decides a a).1 refl
  same_itself (number (unsigned a)) h = eq-eqb a a refl
  same_itself (number (negative a)) h = (Decides-int_eq a a).1 refl
  same_itself (number (float a)) h = absurd (true≢false h)
  same_itself (string a) h = (bytes_eq-Decides a a).1 refl
  same_itself (array ds) h = items_same ds h
  same_itself (object ms) h = members_same ms h

  items_same : (ds : Items) → items_have_float ds ≡ false → same_items ds ds ≡ true
  items_same no_items h = refl
  items_same (item d ds) h = both_true _ _ (same_itself d (neither_left _ _ h)) (items_same ds (neither_right (has_float d) _ h))

  members_same : (ms : Members) → members_have_float ms ≡ false → same_members ms ms ≡ true
  members_same no_members h = refl
  members_same (member k d ms) h = both_true _ _ (both_true _ _ ((bytes_eq-Decides k k).1 refl) (same_itself d (neither_left _ _ h))) (members_same ms (neither_right (has_float d) _ h))

and_false : (a b : Bool) → false ≡ b → false ≡ (a && b)
and_false true b e = e
and_false false b e = refl

-- arrays of different lengths are not the same
pub differ_items : (vs ws : List Value) → (length vs ≡ length ws → ⊥) → false ≡ same_items (items_view vs) (items_view ws)
differ_items [] [] h = absurd (h refl)
differ_items [] (w ∷ ws) h = refl
differ_items (v ∷ vs) [] h = refl
differ_items (v ∷ vs) (w ∷ ws) h = and_false (same (view v) (view w)) (same_items (items_view vs) (items_view ws)) (differ_items vs ws (λ e. h (ap suc e)))
