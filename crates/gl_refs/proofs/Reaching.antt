-- What is named for a reference, and what its sources are among.
use Rattle.std.proofs.Common.{◌≡◌, ℕ, zero, suc, Bool, true, false, cond, ltb, List, [], ◌∷◌, flat_map, Option, Some, None, refl, sym, ◌∙◌, ap}
use Rattle.std.specs.Prelude.{◌||◌}
use Rattle.std.specs.List.{list_any}
use Rattle.std.proofs.lemmas.List.Folds.{list_any-append}
use Rattle.gl_arena.specs.Id.{Id, same_id}
use Rattle.gl_arena.proofs.Ids.{same_id-refl}
use Rattle.gl_refs.specs.Forms.{Form, Pair, blank, Look, form_or, form_at, parts, reads, own_sources, below, meaning_to, meaning, Each, IsUnread}
use Rattle.gl_refs.specs.State.{Reaches, itself, through}
use Rattle.gl_refs.proofs.Meanings.{each_map, each_read}

-- what no live form names is named for itself alone
pub reach_unread : (l : Look) (i q : Id) → Reaches l i q → IsUnread l q → q ≡ i
reach_unread l i q itself u = refl
reach_unread l i q (through k q2 g r e n) u = let no : false ≡ true = sym (u k g e) ∙ n in absurd (cc)

-- where each form that names something stays, so does what is named
pub reach_more : (l l' : Look) (i : Id) → ((k q : Id) (g : Form) → Reaches l i k → l k ≡ Some g → list_any (same_id q) (parts g) ≡ true → l' k ≡ Some g) → (q : Id) → Reaches l i q → Reaches l' i q
reach_more l l' i h q itself = itself
reach_more l l' i h q (through k q2 g r e n) = through k q g (reach_more l l' i h k r) (h k q g r e n) n

-- what is named for a part is named for the whole
pub reach_part : (l : Look) (i k q : Id) (g : Form) → l i ≡ Some g → list_any (same_id k) (parts g) ≡ true → Reaches l k q → Reaches l i q
reach_part l i k q g e n itself = through i k g itself e n
reach_part l i k q g e n (through j q2 h r f m) = through j q h (reach_part l i k j g e n r) f m

or_true : (b : Bool) → (b || true) ≡ true
or_true true = refl
or_true false = refl

pub each_in : (P : Id → Type 0) (xs : List Id) → ((w : Id) → list_any (same_id w) xs ≡ true → P w) → Each P xs
each_in P [] h = tt
each_in P (x ∷ xs) h = (h x (ap (λ b. b || list_any (same_id x) xs) (same_id-refl x)), each_in P xs (λ w e. h w (ap (λ b. same_id w x || b) e ∙ or_true (same_id w x))))

or_none : (a b : Bool) → a ≡ false → b ≡ false → (a || b) ≡ false
or_none a b e f = ap (λ c. c || b) e ∙ f

-- where none of what is named for a reference is a source of a kind, none of its sources is
module _ (l : Look) (p : Id → Bool) where
  abbrev pub IsClean : Id → Type 0
  IsClean i = (c : Id) → Reaches l i c → list_any p (own_sources (form_at l c)) ≡ false

  none_read : (f : Id → Pair) (xs : List Id) → Each (λ q. list_any p (f q).sources ≡ false) xs → list_any p (flat_map (λ q. (f q).sources) xs) ≡ false
  none_read f [] e = refl
  none_read f (x ∷ xs) e =
      list_any-append p (f x).sources (flat_map (λ q. (f q).sources) xs) ∙ or_none (list_any p (f x).sources) (list_any p (flat_map (λ q. (f q).sources) xs)) e.0 (none_read f xs e.1)

  parts_clean : (i : Id) → IsClean i → Each IsClean (parts (form_at l i))
  parts_clean i h = by (l i) refl where
    by : (o : Option Form) → l i ≡ o → Each IsClean (parts (form_or o))
    by None e = tt
    by (Some g) e = each_in IsClean (parts g) (λ w n c r. h c (reach_part l i w c g e n r))

  below_clean : (n : ℕ) (q : Id) (b : Bool) → list_any p (meaning_to n l q).sources ≡ false → list_any p (cond b (meaning_to n l q) blank).sources ≡ false
  below_clean n q true h = h
  below_clean n q false h = refl

  clean_to : (n : ℕ) (i : Id) → IsClean i → list_any p (meaning_to n l i).sources ≡ false
  clean_to zero i h = refl
  clean_to (suc n) i h =
      let f = below (meaning_to n l) i in
      let rs = reads (λ q. (f q).value) (form_at l i) in
      list_any-append p (own_sources (form_at l i)) (flat_map (λ q. (f q).sources) rs)
      ∙ or_none (list_any p (own_sources (form_at l i))) (list_any p (flat_map (λ q. (f q).sources) rs)) (h i itself)
      (none_read f rs
      (each_read (λ q. list_any p (f q).sources ≡ false) (λ q. (f q).value) (form_at l i)
      (each_map IsClean (λ q. list_any p (f q).sources ≡ false) (parts (form_at l i)) (λ q d. below_clean n q (ltb q.1 i.1) (clean_to n q d)) (parts_clean i h))))

  pub clean : (i : Id) → IsClean i → list_any p (meaning l i).sources ≡ false
  unfolding meaning
  clean i h = clean_to (suc i.1) i h
