-- What an arena names, where each value is seen through a function.
use Rattle.std.proofs.Common.{◌≡◌, ℕ, ◌+◌, true, false, Bool, cond, List, [], ◌∷◌, map, Option, Some, None, option_map, refl, sym, ap, subst, ◌∙◌, IsSome, is_some, get_or}
use Rattle.std.proofs.Math.ListN.{get_or-map}
use Rattle.std.proofs.lemmas.List.{map-set}
use Rattle.std.specs.Prelude.{◌==◌}
use Rattle.std.specs.List.{fold}
use Rattle.gl_arena.specs.Id.{Id}
use Rattle.gl_arena.specs.Arena.{Arena, stamped, named, with_value, live_count, either_value, at_stamp, by_stamp, IsStamped, IsOwn, Sets, Gives, Ends}
use Rattle.gl_arena.specs.Mapped.{mapped, mapped_slot}
use Rattle.gl_arena.proofs.Stamps.{own_live}

module _ {A B : Type 0} (f : A → B) where
  if_mapped : (b : Bool) (x : A) → cond b (Some (f x)) None ≡ option_map f (cond b (Some x) None)
  if_mapped true x = refl
  if_mapped false x = refl

  slot-mapped : (k : ℕ) (o : Option (ℕ × A)) → stamped k (mapped_slot f o) ≡ option_map f (stamped k o)
  slot-mapped k None = refl
  slot-mapped k (Some e) = if_mapped (e.0 == k) e.1

  pub named-mapped : (a : Arena A) (i : Id) → named (mapped f a) i ≡ option_map f (named a i)
  named-mapped a i = ap (stamped i.1) (get_or-map (mapped_slot f) a.slots i.0 None) ∙ slot-mapped i.1 (get_or a.slots i.0 None)

  either-mapped : (o p : Option A) → either_value (option_map f o) (option_map f p) ≡ option_map f (either_value o p)
  either-mapped None p = refl
  either-mapped (Some v) p = refl

  at_stamp-mapped : (s : ℕ) (os : List (Option (ℕ × A))) → at_stamp s (map (mapped_slot f) os) ≡ option_map f (at_stamp s os)
  at_stamp-mapped s [] = refl
  at_stamp-mapped s (o ∷ os) =
      ap (λ p. either_value p (at_stamp s (map (mapped_slot f) os))) (slot-mapped s o)
      ∙ (ap (either_value (option_map f (stamped s o))) (at_stamp-mapped s os) ∙ either-mapped (stamped s o) (at_stamp s os))

  pub by_stamp-mapped : (a : Arena A) (s : ℕ) → by_stamp (mapped f a) s ≡ option_map f (by_stamp a s)
  by_stamp-mapped a s = at_stamp-mapped s a.slots

  some-mapped : (o : Option (ℕ × A)) → is_some (mapped_slot f o) ≡ is_some o
  some-mapped None = refl
  some-mapped (Some e) = refl

  fold-mapped : (n : ℕ) (xs : List (Option (ℕ × A))) → fold (λ a x. a + cond (is_some x) 1 0) n (map (mapped_slot f) xs) ≡ fold (λ a x. a + cond (is_some x) 1 0) n xs
  fold-mapped n [] = refl
  fold-mapped n (None ∷ xs) = fold-mapped (n + 0) xs
  fold-mapped n (Some x ∷ xs) = fold-mapped (n + 1) xs

  pub live-mapped : (a : Arena A) → live_count (mapped f a) ≡ live_count a
  live-mapped a = fold-mapped 0 a.slots

  pub with_value-mapped : (a : Arena A) (i : Id) (v : A) → mapped f (with_value a i v) ≡ with_value (mapped f a) i (f v)
  with_value-mapped a i v = ap (λ s. let r : Arena B = record { slots = s; made = a.made } in r) (map-set (mapped_slot f) a.slots i.0 (Some (i.1, v)))

  -- an id is live in one exactly where it is live in the other
  pub live_of_mapped : (a : Arena A) (i : Id) → IsSome (named (mapped f a) i) → IsSome (named a i)
  live_of_mapped a i h = is_there (named a i) (subst IsSome (named-mapped a i) h) where
    is_there : (o : Option A) → IsSome (option_map f o) → IsSome o
    is_there None h = h
    is_there (Some x) h = refl

  pub mapped_live : (a : Arena A) (i : Id) → IsSome (named a i) → IsSome (named (mapped f a) i)
  mapped_live a i h = subst IsSome (sym (named-mapped a i)) (is_there (named a i) h) where
    is_there : (o : Option A) → IsSome o → IsSome (option_map f o)
    is_there None h = h
    is_there (Some x) h = refl

  pub gives-mapped : (old new : Arena A) (i : Id) (v : A) → Gives old new i v → Gives (mapped f old) (mapped f new) i (f v)
  gives-mapped old new i v g = record {
    stamp = g.stamp;
    count = g.count;
    vacant = named-mapped old i ∙ ap (option_map f) g.vacant;
    given = named-mapped new i ∙ ap (option_map f) g.given;
    others = λ k ne. named-mapped new k ∙ (ap (option_map f) (g.others k ne) ∙ sym (named-mapped old k));
    lives = let l = g.lives in rw (live-mapped new, live-mapped old) l;
  }

  pub ends-mapped : (old new : Arena A) (i : Id) → Ends old new i → Ends (mapped f old) (mapped f new) i
  ends-mapped old new i g = record {
    count = g.count;
    ended = named-mapped new i ∙ ap (option_map f) g.ended;
    others = λ k ne. named-mapped new k ∙ (ap (option_map f) (g.others k ne) ∙ sym (named-mapped old k));
    lives = let l = g.lives in rw (live-mapped new, live-mapped old) l;
  }

  -- what is said by stamps
  pub are_stamped-mapped : (a : Arena A) → IsStamped a → IsStamped (mapped f a)
  are_stamped-mapped a st = record {
    below = λ i s. st.below i (live_of_mapped a i s);
    apart = λ i k s t e. st.apart i k (live_of_mapped a i s) (live_of_mapped a k t) e;
  }

  pub own-mapped : (a : Arena A) (i : Id) → IsOwn a i → IsOwn (mapped f a) i
  own-mapped a i own = record {
    below = own.below;
    same = named-mapped a i ∙ (ap (option_map f) own.same ∙ sym (by_stamp-mapped a i.1));
  }

  pub own_of_mapped : (a : Arena A) (i : Id) → IsStamped a → IsOwn (mapped f a) i → IsOwn a i
  own_of_mapped a i st own = by_case (named a i) refl
    where
      none : (o : Option A) → option_map f o ≡ None → o ≡ None
      none None h = refl
      none (Some v) h = absurd (let no : None ≡ Some (f v) = sym h in cc)

      by_case : (o : Option A) → named a i ≡ o → IsOwn a i
      by_case (Some v) e = own_live a i v st e
      by_case None e = record {
        below = own.below;
        same = e ∙ sym (none (by_stamp a i.1) (sym (by_stamp-mapped a i.1) ∙ (sym own.same ∙ (named-mapped a i ∙ ap (option_map f) e))));
      }

  pub sets-mapped : (old new : Arena A) (s : ℕ) (o : Option A) → IsStamped old → Sets old new s o → Sets (mapped f old) (mapped f new) s (option_map f o)
  sets-mapped old new s o st sets = record {
    here = by_stamp-mapped new s ∙ ap (option_map f) sets.here;
    others = λ q ne. by_stamp-mapped new q ∙ (ap (option_map f) (sets.others q ne) ∙ sym (by_stamp-mapped old q));
    own = λ i own. own-mapped new i (sets.own i (own_of_mapped old i st own));
  }
