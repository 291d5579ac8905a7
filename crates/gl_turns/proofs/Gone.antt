-- An old thing that the new tree counts stands in it where it stood.
use Rattle.std.proofs.Common.{◌≡◌, ◌<◌, ◌≤◌, ◌+◌, ℕ, suc, List, [], ◌∷◌, ◌++◌, Bool, true, false, Option, refl, sym, ap, ap₂, ◌∙◌, subst, arith, inl, inr, ◌⊎◌}
use Rattle.std.proofs.lemmas.Bool.{cases_lt}
use Rattle.gl_meaning.specs.Path.{at, main, otherwise, items, item, slot, Path}
use Rattle.gl_meaning.specs.Known.{Among}
use Rattle.gl_meaning.proofs.Pieces.{among_either, among_left, among_right}
use Rattle.gl_plain.specs.Ids.{Kind, Id, node, hit, occurs}
use Rattle.gl_plain.specs.Live
use Rattle.gl_plain.specs.Live.{AttrSpot, ModSpot, ItemSpot, Live, Lives, Items, item_made, times, times_in, times_items, times_comment, times_attrs, times_mods}
use Rattle.gl_plain.specs.Keeps.{same_key, WhereTrue, EachItem, Keeps, KeepIn, KeptBy, item_count}
use Rattle.gl_turns.specs.Places.{Place, node_place, position_place, instance_place, id_of, comment_places, attr_places, mod_places, places, places_items, places_in}
use Rattle.gl_turns.specs.Fits.{Fits, FitsItems, FitsIn, FitsRoot}
use Rattle.gl_turns.proofs.Sites.{Counted, body_counted, arm_counted, items_counted}
use Rattle.gl_turns.proofs.Kept.{item_list}

module _ (next : Kind → ℕ) (q : Id) (old : q.num < next q.kind) where
  -- What isn't counted in the old tree isn't in the new one.

  items_zero : (is is' : Items) → ((z : ItemSpot) (k : Option ℕ) (ls : Lives) → KeptBy next is z k ls → item_count z k ls q ≡ 0) → EachItem (KeptBy next is) is' → times_items q is' ≡ 0
  items_zero is Live.no_items one h = refl
  items_zero is (Live.item_live z k ls is') one h = let a = one z k ls h.0 in let b = items_zero is is' one h.1 in omega (arith, a, b)

  mutual
    zero : (l l' : Live) → Keeps next l l' → times q l ≡ 0 → times q l' ≡ 0
    zero (Live.still n) (Live.still n') h e = ap (λ k. hit q (node k)) h ∙ e
    zero (Live.put_live n z) (Live.put_live n' z') h e = ap₂ (λ k s. hit q (node k) + occurs q s.made) h.0 h.1 ∙ e
    zero (Live.element_live n made xs zs ls) (Live.element_live n' made' xs' zs' ls') h e =
        let a = ap (λ k. hit q (node k)) h.0 in
        let b = ap (occurs q) h.1 in
        let c = ap (times_attrs q) h.2 in
        let d = ap (times_mods q) h.3 in
        let f = zero_in ls ls' h.4 (omega (arith, e)) in omega (arith, a, b, c, d, e, f)
    zero (Live.branch_live z true k ls) (Live.branch_live z' true k' ls') h e = let a = ap (λ s. occurs q s.made) h.0 in let b = ap (times_comment q) h.1 in let f = zero_in ls ls' h.2 (omega (arith, e)) in omega (arith, a, b, e, f)
    zero (Live.branch_live z false k ls) (Live.branch_live z' false k' ls') h e = let a = ap (λ s. occurs q s.made) h.0 in let b = ap (times_comment q) h.1 in let f = zero_in ls ls' h.2 (omega (arith, e)) in omega (arith, a, b, e, f)
    zero (Live.branch_live z true k ls) (Live.branch_live z' false k' ls') h e = let a = ap (λ s. occurs q s.made) h.0 in let f = h.1 q old in omega (arith, a, e, f)
    zero (Live.branch_live z false k ls) (Live.branch_live z' true k' ls') h e = let a = ap (λ s. occurs q s.made) h.0 in let f = h.1 q old in omega (arith, a, e, f)
    zero (Live.listed z is) (Live.listed z' is') h e = let a = ap (λ s. occurs q s.made) h.0 in let f = items_zero is is' (λ y k ls g. item_zero is y k ls g (omega (arith, e))) h.1 in omega (arith, a, e, f)
    zero (Live.listed z is) (Live.unlisted z' k' ls') h e = let a = ap (λ s. occurs q s.made) h.0 in let f = h.1 q old in omega (arith, a, e, f)
    zero (Live.unlisted z k ls) (Live.listed z' is') h e = let a = ap (λ s. occurs q s.made) h.0 in let f = h.1 q old in omega (arith, a, e, f)
    zero (Live.unlisted z k ls) (Live.unlisted z' k' ls') h e = let a = ap (λ s. occurs q s.made) h.0 in let b = ap (times_comment q) h.1 in let f = zero_in ls ls' h.2 (omega (arith, e)) in omega (arith, a, b, e, f)
    zero (Live.let_live made rs ls) (Live.let_live made' rs' ls') h e = let a = ap (occurs q) h.0 in let f = zero_in ls ls' h.2 (omega (arith, e)) in omega (arith, a, e, f)
    zero (Live.component_live i made gm args b ls) (Live.component_live i' made' gm' args' b' ls') h e = let a = ap (occurs q) h.1 in let f = zero_in ls ls' h.4 (omega (arith, e)) in omega (arith, a, e, f)
    zero (Live.yield_live n made rs ls) (Live.yield_live n' made' rs' ls') h e = let a = ap (occurs q) h.1 in let f = zero_in ls ls' h.3 (omega (arith, e)) in omega (arith, a, e, f)
    zero (Live.deep_live r) (Live.deep_live r') h e = refl
    zero _ _ h e = absurd h

    zero_in : (ls ls' : Lives) → KeepIn next ls ls' → times_in q ls ≡ 0 → times_in q ls' ≡ 0
    zero_in Live.no_lives Live.no_lives h e = refl
    zero_in (Live.live_and l ls) (Live.live_and l' ls') h e = let a = zero l l' h.0 (omega (arith, e)) in let b = zero_in ls ls' h.1 (omega (arith, e)) in omega (arith, a, b)
    zero_in _ _ h e = absurd h

    item_zero : (is : Items) (z : ItemSpot) (k : Option ℕ) (ls : Lives) → KeptBy next is z k ls → times_items q is ≡ 0 → item_count z k ls q ≡ 0
    item_zero Live.no_items z k ls h e = h q old
    item_zero (Live.item_live y j ms is) z k ls h e = by (same_key y z) h (λ g. zero_in ms ls g (omega (arith, e))) (λ g. item_zero is z k ls g (omega (arith, e))) where
      by : (d : Bool) → WhereTrue d ((z ≡ y) × (k ≡ j) × KeepIn next ms ls) (KeptBy next is z k ls) → (KeepIn next ms ls → times_in q ls ≡ 0) → (KeptBy next is z k ls → item_count z k ls q ≡ 0) → item_count z k ls q ≡ 0
      by true g inside rest = let a = ap (λ s. occurs q (item_made s)) g.0 in let b = ap (times_comment q) g.1 in let c = inside g.2 in omega (arith, a, b, c, e)
      by false g inside rest = rest g

  -- What stands in the old tree, and is counted in the new one, stands there.

  module _ (a : Place) (is : id_of a ≡ q) where
    here : (count : Id → ℕ) (xs : List Place) → Counted count xs → Among a xs → 0 < count q
    here count xs c m = subst (λ i. 0 < count i) is (c a m)

    items_there : (p : Path) (is is' : Items) → ((z : ItemSpot) (k : Option ℕ) (ls : Lives) → KeptBy next is z k ls → 0 < item_count z k ls q → Among a (item_list next p z k ls)) → EachItem (KeptBy next is) is' → 0 < times_items q is' → Among a (places_items p is')
    items_there p is Live.no_items one h w = absurd (omega (arith, w))
    items_there p is (Live.item_live z k ls is') one h w = by (cases_lt 0 (item_count z k ls q)) (items_there p is is' one h.1) where
      by : ((0 < item_count z k ls q) ⊎ (item_count z k ls q ≤ 0)) → (0 < times_items q is' → Among a (places_items p is')) → Among a (item_list next p z k ls ++ places_items p is')
      by (inl u) rest = among_left a (item_list next p z k ls) (places_items p is') (one z k ls h.0 u)
      by (inr u) rest = among_right a (item_list next p z k ls) (places_items p is') (rest (omega (arith, u, w)))

    -- a body with its comment
    arm_there : (p : Path) (k : Option ℕ) (ls ls' : Lives) → FitsIn p 0 ls → (n : ℕ) → n + (times_in q ls + times_comment q k) ≤ 1 → 0 < n + (times_in q ls' + times_comment q k) → (Among a (places_in p 0 ls) → times_in q ls ≤ 1 → 0 < times_in q ls' → Among a (places_in p 0 ls'))
        → Among a (places_in p 0 ls ++ comment_places p k) → Among a (places_in p 0 ls' ++ comment_places p k)
    arm_there p k ls ls' f n once w rec m = by (among_either a (places_in p 0 ls) (comment_places p k) m) where
      by : (Among a (places_in p 0 ls) ⊎ Among a (comment_places p k)) → Among a (places_in p 0 ls' ++ comment_places p k)
      by (inl u) = let c = here (λ i. times_in i ls) (places_in p 0 ls) (body_counted p 0 ls f) u in among_left a (places_in p 0 ls') (comment_places p k) (rec u (omega (arith, once)) (omega (arith, once, c, w)))
      by (inr u) = among_right a (places_in p 0 ls') (comment_places p k) u

    mutual
      there : (p : Path) (l l' : Live) → Fits p l → Keeps next l l' → times q l ≤ 1 → 0 < times q l' → Among a (places p l) → Among a (places p l')
      there p (Live.still n) (Live.still n') f h once w m = subst (λ k. Among a (places p (Live.still k))) (sym h) m
      there p (Live.put_live n z) (Live.put_live n' z') f h once w m = subst (λ k. Among a (places p (Live.put_live k z'))) (sym h.0) (subst (λ k. Among a (places p (Live.put_live n k))) (sym h.1) m)
      there p (Live.element_live n made xs zs ls) (Live.element_live n' made' xs' zs' ls') f h once w m =
          let e0 = ap (λ k. hit q (node k)) h.0 in
          let e1 = ap (occurs q) h.1 in
          let e2 = ap (times_attrs q) h.2 in
          let e3 = ap (times_mods q) h.3 in
          let inside = places_in p 0 ls in
          let inside' = places_in p 0 ls' in
          let rec : Among a inside → Among a inside' = (λ u.
          let c = here (λ i. times_in i ls) (places_in p 0 ls) (body_counted p 0 ls f.2) u in there_in p 0 ls ls' f.2 h.4 (omega (arith, once)) (omega (arith, once, c, w, e0, e1, e2, e3)) u) in
          subst (λ k. Among a (node_place p k ∷ (attr_places p xs' ++ (inside' ++ mod_places p 0 zs')))) (sym h.0)
          (subst (λ k. Among a (node_place p n ∷ (attr_places p k ++ (inside' ++ mod_places p 0 zs')))) (sym h.2)
          (subst (λ k. Among a (node_place p n ∷ (attr_places p xs ++ (inside' ++ mod_places p 0 k)))) (sym h.3) (by m rec))) where
            by2 : (Among a (places_in p 0 ls) ⊎ Among a (mod_places p 0 zs)) → (Among a (places_in p 0 ls) → Among a (places_in p 0 ls')) → Among a (places_in p 0 ls' ++ mod_places p 0 zs)
            by2 (inl u) rec = among_left a (places_in p 0 ls') (mod_places p 0 zs) (rec u)
            by2 (inr u) rec = among_right a (places_in p 0 ls') (mod_places p 0 zs) u

            by1 : (Among a (attr_places p xs) ⊎ Among a (places_in p 0 ls ++ mod_places p 0 zs)) → (Among a (places_in p 0 ls) → Among a (places_in p 0 ls')) → Among a (attr_places p xs ++ (places_in p 0 ls' ++ mod_places p 0 zs))
            by1 (inl u) rec = among_left a (attr_places p xs) (places_in p 0 ls' ++ mod_places p 0 zs) u
            by1 (inr u) rec = among_right a (attr_places p xs) (places_in p 0 ls' ++ mod_places p 0 zs) (by2 (among_either a (places_in p 0 ls) (mod_places p 0 zs) u) rec)

            by : Among a (node_place p n ∷ (attr_places p xs ++ (places_in p 0 ls ++ mod_places p 0 zs))) → (Among a (places_in p 0 ls) → Among a (places_in p 0 ls')) → Among a (node_place p n ∷ (attr_places p xs ++ (places_in p 0 ls' ++ mod_places p 0 zs)))
            by (inl u) rec = inl u
            by (inr u) rec = inr (by1 (among_either a (attr_places p xs) (places_in p 0 ls ++ mod_places p 0 zs) u) rec)
      there p (Live.branch_live z true k ls) (Live.branch_live z' true k' ls') f h once w m =
          let e0 = ap (λ s. occurs q s.made) h.0 in
          let e1 = ap (times_comment q) h.1 in
          subst (λ y. Among a (places p (Live.branch_live y true k' ls'))) (sym h.0)
          (subst (λ y. Among a (places p (Live.branch_live z true y ls'))) (sym h.1)
          (elim m [ inl u ↦ inl u | inr u ↦ inr (arm_there (main ∷ p) k ls ls' f.1 (occurs q z.made) once (omega (arith, w, e0, e1)) (λ v o x. there_in (main ∷ p) 0 ls ls' f.1 h.2 o x v) u) ]))
      there p (Live.branch_live z false k ls) (Live.branch_live z' false k' ls') f h once w m =
          let e0 = ap (λ s. occurs q s.made) h.0 in
          let e1 = ap (times_comment q) h.1 in
          subst (λ y. Among a (places p (Live.branch_live y false k' ls'))) (sym h.0)
          (subst (λ y. Among a (places p (Live.branch_live z false y ls'))) (sym h.1)
          (elim m [ inl u ↦ inl u | inr u ↦ inr (arm_there (otherwise ∷ p) k ls ls' f.1 (occurs q z.made) once (omega (arith, w, e0, e1)) (λ v o x. there_in (otherwise ∷ p) 0 ls ls' f.1 h.2 o x v) u) ]))
      there p (Live.branch_live z true k ls) (Live.branch_live z' false k' ls') f h once w m =
          let e0 = ap (λ s. occurs q s.made) h.0 in let g = h.1 q old in
          elim m [ inl u ↦ inl (u ∙ ap (λ s. position_place p s.ref) (sym h.0)) | inr u ↦ (let c = here (λ i. times_in i ls + times_comment i k) _ (arm_counted (main ∷ p) k ls f.1) u in absurd (omega (arith, c, once, w, e0, g))) ]
      there p (Live.branch_live z false k ls) (Live.branch_live z' true k' ls') f h once w m =
          let e0 = ap (λ s. occurs q s.made) h.0 in let g = h.1 q old in
          elim m [ inl u ↦ inl (u ∙ ap (λ s. position_place p s.ref) (sym h.0)) | inr u ↦ (let c = here (λ i. times_in i ls + times_comment i k) _ (arm_counted (otherwise ∷ p) k ls f.1) u in absurd (omega (arith, c, once, w, e0, g))) ]
      there p (Live.listed z is) (Live.listed z' is') f h once w m =
          let e0 = ap (λ s. occurs q s.made) h.0 in
          elim m [
            | inl u ↦ inl (u ∙ ap (λ s. position_place p s.ref) (sym h.0))
            | inr u ↦
                let c = here (λ i. times_items i is) (places_items (items ∷ p) is) (items_counted (items ∷ p) is f.1) u in
                inr (items_there (items ∷ p) is is' (λ y k ls g v. item_there (items ∷ p) is y k ls f.1 g (omega (arith, once)) v u) h.1 (omega (arith, once, c, w, e0)))
          ]
      there p (Live.listed z is) (Live.unlisted z' k' ls') f h once w m =
          let e0 = ap (λ s. occurs q s.made) h.0 in let g = h.1 q old in
          elim m [ inl u ↦ inl (u ∙ ap (λ s. position_place p s.ref) (sym h.0)) | inr u ↦ (let c = here (λ i. times_items i is) _ (items_counted (items ∷ p) is f.1) u in absurd (omega (arith, c, once, w, e0, g))) ]
      there p (Live.unlisted z k ls) (Live.listed z' is') f h once w m =
          let e0 = ap (λ s. occurs q s.made) h.0 in let g = h.1 q old in
          elim m [ inl u ↦ inl (u ∙ ap (λ s. position_place p s.ref) (sym h.0)) | inr u ↦ (let c = here (λ i. times_in i ls + times_comment i k) _ (arm_counted (otherwise ∷ p) k ls f.1) u in absurd (omega (arith, c, once, w, e0, g))) ]
      there p (Live.unlisted z k ls) (Live.unlisted z' k' ls') f h once w m =
          let e0 = ap (λ s. occurs q s.made) h.0 in
          let e1 = ap (times_comment q) h.1 in
          subst (λ y. Among a (places p (Live.unlisted y k' ls'))) (sym h.0)
          (subst (λ y. Among a (places p (Live.unlisted z y ls'))) (sym h.1)
          (elim m [ inl u ↦ inl u | inr u ↦ inr (arm_there (otherwise ∷ p) k ls ls' f.1 (occurs q z.made) once (omega (arith, w, e0, e1)) (λ v o x. there_in (otherwise ∷ p) 0 ls ls' f.1 h.2 o x v) u) ]))
      there p (Live.let_live made rs ls) (Live.let_live made' rs' ls') f h once w m =
          let e0 = ap (occurs q) h.0 in
          let c = here (λ i. times_in i ls) (places_in (main ∷ p) 0 ls) (body_counted (main ∷ p) 0 ls f) m in there_in (main ∷ p) 0 ls ls' f h.2 (omega (arith, once)) (omega (arith, once, c, w, e0)) m
      there p (Live.component_live i made gm args b ls) (Live.component_live i' made' gm' args' b' ls') f h once w m =
          let e0 = ap (occurs q) h.1 in
          subst (λ y. Among a (instance_place y.path y ∷ places_in y.path 0 ls')) (sym h.0)
          (elim m [
            | inl u ↦ inl u
            | inr u ↦ (let c = here (λ j. times_in j ls) (places_in i.path 0 ls) (body_counted i.path 0 ls f.3) u in inr (there_in i.path 0 ls ls' f.3 h.4 (omega (arith, once)) (omega (arith, once, c, w, e0)) u))
          ])
      there p (Live.yield_live n made rs ls) (Live.yield_live n' made' rs' ls') f h once w m =
          let e0 = ap (occurs q) h.1 in
          let c = here (λ i. times_in i ls) (places_in (slot n ∷ p) 0 ls) (body_counted (slot n ∷ p) 0 ls f) m in
          subst (λ k. Among a (places_in (slot k ∷ p) 0 ls')) (sym h.0) (there_in (slot n ∷ p) 0 ls ls' f h.3 (omega (arith, once)) (omega (arith, once, c, w, e0)) m)
      there p (Live.deep_live r) (Live.deep_live r') f h once w m = absurd m
      there p _ _ f h once w m = absurd h

      pub there_in : (p : Path) (i : ℕ) (ls ls' : Lives) → FitsIn p i ls → KeepIn next ls ls' → times_in q ls ≤ 1 → 0 < times_in q ls' → Among a (places_in p i ls) → Among a (places_in p i ls')
      there_in p i Live.no_lives Live.no_lives f h once w m = absurd m
      there_in p i (Live.live_and l ls) (Live.live_and l' ls') f h once w m =
          elim (among_either a (places (at i ∷ p) l) (places_in p (suc i) ls) m) [
            | inl u ↦
                let c = here (λ j. times j l) (places (at i ∷ p) l) (Rattle.gl_turns.proofs.Sites.part_counted (at i ∷ p) l f.0) u in
                let z = zero_in ls ls' h.1 (omega (arith, once, c)) in
                among_left a (places (at i ∷ p) l') (places_in p (suc i) ls') (there (at i ∷ p) l l' f.0 h.0 (omega (arith, once)) (omega (arith, w, z)) u)
            | inr u ↦
                let c = here (λ j. times_in j ls) (places_in p (suc i) ls) (body_counted p (suc i) ls f.1) u in
                let z = zero l l' h.0 (omega (arith, once, c)) in
                among_right a (places (at i ∷ p) l') (places_in p (suc i) ls') (there_in p (suc i) ls ls' f.1 h.1 (omega (arith, once)) (omega (arith, w, z)) u)
          ]
      there_in p i _ _ f h once w m = absurd h

      item_there : (p : Path) (is : Items) (z : ItemSpot) (k : Option ℕ) (ls : Lives) → FitsItems p is → KeptBy next is z k ls → times_items q is ≤ 1 → 0 < item_count z k ls q → Among a (places_items p is) → Among a (item_list next p z k ls)
      item_there p Live.no_items z k ls f h once w m = absurd m
      item_there p (Live.item_live y j ms is) z k ls f h once w m =
          by (same_key y z) h (among_either a (item_list next p y j ms) (places_items p is) m) (λ g u o x. there_in (item y.key y.occurrence ∷ p) 0 ms ls f.1 g o x u) (λ g u. item_there p is z k ls f.2 g (omega (arith, once)) w u) where
            counted : Among a (item_list next p y j ms) → 0 < item_count y j ms q
            counted m = here (item_count y j ms) (item_list next p y j ms) (Rattle.gl_turns.proofs.Kept.item_count_same next y j ms p f.1) m

            by : (d : Bool) → WhereTrue d ((z ≡ y) × (k ≡ j) × KeepIn next ms ls) (KeptBy next is z k ls) → (Among a (item_list next p y j ms) ⊎ Among a (places_items p is))
                → (KeepIn next ms ls → Among a (places_in (item y.key y.occurrence ∷ p) 0 ms) → times_in q ms ≤ 1 → 0 < times_in q ls → Among a (places_in (item y.key y.occurrence ∷ p) 0 ls))
                → (KeptBy next is z k ls → Among a (places_items p is) → Among a (item_list next p z k ls)) → Among a (item_list next p z k ls)
            by true g (inl u) rec rest =
                let e0 = ap (λ s. occurs q (item_made s)) g.0 in
                let e1 = ap (times_comment q) g.1 in
                subst (λ s. Among a (item_list next p s k ls)) (sym g.0)
                (subst (λ o. Among a (item_list next p y o ls)) (sym g.1)
                (elim u [
                  | inl v ↦ inl v
                  | inr v ↦ inr (arm_there (item y.key y.occurrence ∷ p) j ms ls f.1 (occurs q (item_made y)) (omega (arith, once)) (omega (arith, w, e0, e1)) (λ x o y. rec g.2 x o y) v)
                ]))
            by true g (inr u) rec rest =
                let c = here (λ i. times_items i is) (places_items p is) (items_counted p is f.2) u in
                let e0 = ap (λ s. occurs q (item_made s)) g.0 in
                let e1 = ap (times_comment q) g.1 in
                let z0 = zero_in ms ls g.2 (omega (arith, once, c)) in absurd (omega (arith, once, c, e0, e1, z0, w))
            by false g (inl u) rec rest = let c = counted u in let z0 = item_zero is z k ls g (omega (arith, once, c)) in absurd (omega (arith, z0, w))
            by false g (inr u) rec rest = rest g u

    pub root_there : (l l' : Live) → FitsRoot l → Keeps next l l' → times q l ≤ 1 → 0 < times q l' → Among a (places [] l) → Among a (places [] l')
    root_there (Live.component_live i made gm args b ls) (Live.component_live i' made' gm' args' b' ls') f h once w m =
        let e0 = ap (occurs q) h.1 in
        let g = subst (λ p. FitsIn p 0 ls) (sym f.0) f.2 in
        subst (λ y. Among a (instance_place y.path y ∷ places_in y.path 0 ls')) (sym h.0)
        (elim m [
          | inl u ↦ inl u
          | inr u ↦ (let c = here (λ j. times_in j ls) (places_in i.path 0 ls) (body_counted i.path 0 ls g) u in inr (there_in i.path 0 ls ls' g h.4 (omega (arith, once)) (omega (arith, once, c, w, e0)) u))
        ])
    root_there (Live.deep_live r) l' f h once w m = absurd m
    root_there (Live.component_live i made gm args b ls) _ f h once w m = absurd h
    root_there _ _ f h once w m = absurd f
