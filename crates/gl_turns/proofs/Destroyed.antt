-- What an update destroys is what is gone by path.
use Rattle.std.proofs.Common.{◌≡◌, ◌<◌, ◌≤◌, ◌+◌, ℕ, suc, List, [], ◌∷◌, map, Bool, true, false, true≢false, Option, Some, None, refl, sym, ap, ap₂, ◌∙◌, subst, arith, inl, inr, ◌⊎◌}
use Rattle.std.specs.Prelude.{filter, filter_map, nat_eq, not}
use Rattle.std.proofs.lemmas.Bool.{cases_lt, eq-eqb, ne_eqb}
use Rattle.gl_meaning.specs.App.{App}
use Rattle.gl_meaning.specs.Path.{Path, path_eq, has_path}
use Rattle.gl_meaning.specs.Eval.{Store}
use Rattle.gl_meaning.specs.Known.{Among}
use Rattle.gl_meaning.specs.Laws.{NoRepeat}
use Rattle.gl_meaning.specs.Render.{draw}
use Rattle.gl_meaning.specs.Changes.{instances}
use Rattle.gl_meaning.specs.Print.{modifier_paths}
use Rattle.gl_meaning.proofs.Equal.{path_itself}
use Rattle.gl_meaning.proofs.Modifiers.{modifiers_once}
use Rattle.gl_meaning.proofs.Once.{instances_once}
use Rattle.gl_meaning.proofs.Pieces.{some_same, none_some}
use Rattle.gl_plain.specs.State.{Inst, State}
use Rattle.gl_plain.specs.Live.{Live, times}
use Rattle.gl_plain.specs.Renew.{renew_app}
use Rattle.gl_plain.specs.Machine.{StandsFor, OnlyTouched}
use Rattle.gl_plain.proofs.Moves.{is_old}
use Rattle.gl_plain.proofs.Roots.{updated_stands, ids_are_kept}
use Rattle.gl_turns.specs.Places.{Place, node_place, position_place, item_place, instance_place, modifier_place, path_of, id_of, instance_in, modifier_in, places}
use Rattle.gl_turns.specs.Laws.{CountedIsThere, DestroysGone}
use Rattle.gl_turns.proofs.Found.{found_from, found_in, among_mapped, mapped_from, has_it, has_not}
use Rattle.gl_turns.proofs.Sites.{root_counted}
use Rattle.gl_turns.proofs.Kept.{KeptOne, root_kept}
use Rattle.gl_turns.proofs.Agrees.{path_sum}
use Rattle.gl_turns.proofs.Numbered.{tree_agrees}
use Rattle.gl_turns.proofs.Evaluated.{one_if}
use Rattle.gl_turns.proofs.Logged.{is_modifier, sum_has, sum_from}
use Rattle.gl_turns.proofs.Gone.{root_there}

filter_alike : {A : Type 0} (f g : A → Bool) (xs : List A) → ((x : A) → Among x xs → f x ≡ g x) → filter f xs ≡ filter g xs
filter_alike f g [] h = refl
filter_alike f g (x ∷ xs) h = ap₂ (λ b ys. Rattle.std.proofs.Common.cond b (x ∷ ys) ys) (h x (inl refl)) (filter_alike f g xs (λ y m. h y (inr m)))

module _ (app : App) (σ τ : Store) (st : State) (l : Live) (h : StandsFor app σ τ st l) (cells : OnlyTouched app σ τ st) where
  abbrev l' : Live
  l' = (renew_app app τ l st).0

  now : StandsFor app τ τ (renew_app app τ l st).1 (renew_app app τ l st).0
  now = updated_stands app σ τ st l h cells

  kept : (a : Place) → Among a (places [] l') → KeptOne st.next (places [] l) a
  kept = root_kept st.next l (renew_app app τ l st).0 (tree_agrees app σ τ st l h).1 (tree_agrees app τ τ (renew_app app τ l st).1 (renew_app app τ l st).0 (updated_stands app σ τ st l h cells)).1 (ids_are_kept app σ τ st l h cells)

  pub there : (a : Place) → Among a (places [] l) → 0 < times (id_of a) l' → Among a (places [] l')
  there a m w =
      let c = root_counted l (tree_agrees app σ τ st l h).1 a m in
      root_there st.next (id_of a) (is_old st (λ q. times q l) h.owned (id_of a) c) a refl l (renew_app app τ l st).0 (tree_agrees app σ τ st l h).1 (ids_are_kept app σ τ st l h cells) (h.owned.once (id_of a)) w m

  pub counted : (a : Place) → Among a (places [] l') → 0 < times (id_of a) l'
  counted a m = root_counted (renew_app app τ l st).0 (tree_agrees app τ τ (renew_app app τ l st).1 (renew_app app τ l st).0 (updated_stands app σ τ st l h cells)).1 a m

  -- For one sort of things, of which a path in the old tree has one, and the new rendering has these paths.
  module _ (B : Type 0) (g : Place → Option (Path × B)) (place : Path → B → Place) (means : (a : Place) (z : Path × B) → g a ≡ Some z → a ≡ place z.0 z.1) (gives : (p : Path) (n : B) → g (place p n) ≡ Some (p, n))
      (stands : (p : Path) (n : B) → path_of (place p n) ≡ p) (paths : List Path)
      (one : (p : Path) (n m : B) → Among (p, n) (filter_map g (places [] l)) → Among (p, m) (filter_map g (places [] l)) → n ≡ m)
      (listed : (p : Path) → Among p (map (λ z. z.0) (filter_map g (places [] l'))) → Among p paths)
      (found : (p : Path) → Among p paths → Among p (map (λ z. z.0) (filter_map g (places [] l')))) where
    pub gone : (z : Path × B) → Among z (filter_map g (places [] l)) → nat_eq (times (id_of (place z.0 z.1)) l') 0 ≡ not (has_path z.0 paths)
    gone z n = by (cases_lt 0 (times (id_of (place z.0 z.1)) l')) where
      there_old : Among (place z.0 z.1) (places [] l)
      there_old = let f = found_from g z (places [] l) n in subst (λ a. Among a (places [] l)) (means f.0 z f.2) f.1

      no_path : times (id_of (place z.0 z.1)) l' ≡ 0 → Among z.0 paths → ⊥
      no_path e m =
          let y = mapped_from (λ (x : Path × B). x.0) z.0 (filter_map g (places [] l')) (found z.0 m) in
          let f = found_from g y.0 (places [] l') y.1 in
          by' y.0 (y.2) f.0 (means f.0 y.0 f.2) f.1 (kept f.0 f.1) where
            by' : (y : Path × B) → z.0 ≡ y.0 → (a : Place) → a ≡ place y.0 y.1 → Among a (places [] l') → KeptOne st.next (places [] l) a → ⊥
            by' y q a ea ma (inl k) =
                let old = found_in g y (place y.0 y.1) (places [] l) (gives y.0 y.1) (subst (λ b. Among b (places [] l)) ea k) in
                let same : y.1 ≡ z.1 = one z.0 y.1 z.1 (subst (λ (p : Path). Among (p, y.1) (filter_map g (places [] l))) (sym q) old) n in
                let mine : Among (place z.0 z.1) (places [] l') = subst (λ b. Among b (places [] l')) (ea ∙ ap₂ place (sym q) same) ma in
                let w = counted (place z.0 z.1) mine in omega (arith, w, e)
            by' y q a ea ma (inr k) =
                k.1 (place z.0 z.1) (let f = found_from g z (places [] l) n in subst (λ b. Among b (places [] l)) (means f.0 z f.2) f.1) (ap path_of ea ∙ (stands y.0 y.1 ∙ (sym q ∙ sym (stands z.0 z.1))))

      by : ((0 < times (id_of (place z.0 z.1)) l') ⊎ (times (id_of (place z.0 z.1)) l' ≤ 0)) → nat_eq (times (id_of (place z.0 z.1)) l') 0 ≡ not (has_path z.0 paths)
      by (inl w) =
          let m = there (place z.0 z.1) there_old w in
          let k = has_it z.0 paths (listed z.0 (among_mapped (λ (x : Path × B). x.0) z (filter_map g (places [] l')) (found_in g z (place z.0 z.1) (places [] l') (gives z.0 z.1) m))) in
          ne_eqb (times (id_of (place z.0 z.1)) l') 0 (λ e. omega (arith, e, w)) ∙ sym (ap not k)
      by (inr w) = let e : times (id_of (place z.0 z.1)) l' ≡ 0 = omega (arith, w) in eq-eqb (times (id_of (place z.0 z.1)) l') 0 e ∙ sym (ap not (has_not z.0 paths (no_path e)))

pub counted_is_there : CountedIsThere
counted_is_there app σ τ st l h cells a m = (there app σ τ st l h cells a m, counted app σ τ st l h cells a)

-- Where a sum of tests is at most one, a path has one thing.

sum_once : (p : Path) (ps : List Path) → NoRepeat ps → path_sum (λ q. one_if (path_eq p q)) ps ≤ 1
sum_once p [] d = omega arith
sum_once p (q ∷ qs) d = by (path_eq p q) refl (sum_once p qs d.1) where
  by : (b : Bool) → path_eq p q ≡ b → path_sum (λ r. one_if (path_eq p r)) qs ≤ 1 → one_if b + path_sum (λ r. one_if (path_eq p r)) qs ≤ 1
  by false e k = omega (arith, k)
  by true e k = by2 (cases_lt 0 (path_sum (λ r. one_if (path_eq p r)) qs)) where
    by2 : ((0 < path_sum (λ r. one_if (path_eq p r)) qs) ⊎ (path_sum (λ r. one_if (path_eq p r)) qs ≤ 0)) → 1 + path_sum (λ r. one_if (path_eq p r)) qs ≤ 1
    by2 (inl w) = absurd (d.0 (subst (λ r. Among r qs) (Rattle.gl_meaning.proofs.Equal.path_means p q e) (sum_from p qs w)))
    by2 (inr w) = omega (arith, w)

one_at : {B : Type 0} (p : Path) (n m : B) (zs : List (Path × B)) → path_sum (λ q. one_if (path_eq p q)) (map (λ z. z.0) zs) ≤ 1 → Among (p, n) zs → Among (p, m) zs → n ≡ m
one_at p n m [] k a b = absurd a
one_at {B} p n m (z ∷ zs) k (inl a) (inl b) = ap (λ (y : Path × B). y.1) (a ∙ sym b)
one_at {B} p n m (z ∷ zs) k (inl a) (inr b) =
    let e : one_if (path_eq p z.0) ≡ 1 = ap one_if (subst (λ (q : Path). path_eq p q ≡ true) (ap (λ (y : Path × B). y.0) a) (path_itself p)) in
    let w = sum_has p (map (λ (y : Path × B). y.0) zs) (among_mapped (λ (y : Path × B). y.0) (p, m) zs b) in absurd (omega (arith, e, w, k))
one_at {B} p n m (z ∷ zs) k (inr a) (inl b) =
    let e : one_if (path_eq p z.0) ≡ 1 = ap one_if (subst (λ (q : Path). path_eq p q ≡ true) (ap (λ (y : Path × B). y.0) b) (path_itself p)) in
    let w = sum_has p (map (λ (y : Path × B). y.0) zs) (among_mapped (λ (y : Path × B). y.0) (p, n) zs a) in absurd (omega (arith, e, w, k))
one_at p n m (z ∷ zs) k (inr a) (inr b) = one_at p n m zs (omega (arith, k)) a b

is_instance : (a : Place) (z : Path × Inst) → instance_in a ≡ Some z → a ≡ instance_place z.0 z.1
is_instance (instance_place p n) z e = ap (λ (y : Path × Inst). instance_place y.0 y.1) (some_same (p, n) z e)
is_instance (node_place p n) z e = absurd (none_some z e)
is_instance (position_place p n) z e = absurd (none_some z e)
is_instance (item_place p n) z e = absurd (none_some z e)
is_instance (modifier_place p n) z e = absurd (none_some z e)

module _ (app : App) (σ τ : Store) (st : State) (l : Live) (h : StandsFor app σ τ st l) (cells : OnlyTouched app σ τ st) where
  abbrev modifiers : List (Path × ℕ)
  modifiers = filter_map modifier_in (places [] l)

  abbrev modifiers' : List (Path × ℕ)
  modifiers' = filter_map modifier_in (places [] (renew_app app τ l st).0)

  one_modifier : (p : Path) (n m : ℕ) → Among (p, n) modifiers → Among (p, m) modifiers → n ≡ m
  one_modifier p n m a b = one_at p n m modifiers (let e = (tree_agrees app σ τ st l h).0.modifiers (λ q. one_if (path_eq p q)) in let k = sum_once p (modifier_paths (draw app σ)) (modifiers_once app σ) in omega (arith, e, k)) a b

  listed_modifier : (p : Path) → Among p (map (λ z. z.0) modifiers') → Among p (modifier_paths (draw app τ))
  listed_modifier p m =
      let w = sum_has p (map (λ (z : Path × ℕ). z.0) modifiers') m in
      let e = (tree_agrees app τ τ (renew_app app τ l st).1 (renew_app app τ l st).0 (updated_stands app σ τ st l h cells)).0.modifiers (λ q. one_if (path_eq p q)) in sum_from p (modifier_paths (draw app τ)) (omega (arith, w, e))

  found_modifier : (p : Path) → Among p (modifier_paths (draw app τ)) → Among p (map (λ z. z.0) modifiers')
  found_modifier p m =
      let w = sum_has p (modifier_paths (draw app τ)) m in
      let e = (tree_agrees app τ τ (renew_app app τ l st).1 (renew_app app τ l st).0 (updated_stands app σ τ st l h cells)).0.modifiers (λ q. one_if (path_eq p q)) in sum_from p (map (λ (z : Path × ℕ). z.0) modifiers') (omega (arith, w, e))

  pub modifier_gone : (z : Path × ℕ) → Among z modifiers → nat_eq (times (id_of (modifier_place z.0 z.1)) (renew_app app τ l st).0) 0 ≡ not (has_path z.0 (modifier_paths (draw app τ)))
  modifier_gone z m = gone app σ τ st l h cells ℕ modifier_in modifier_place is_modifier (λ p n. refl) (λ p n. refl) (modifier_paths (draw app τ)) one_modifier listed_modifier found_modifier z m

  abbrev instances_there : List (Path × Inst)
  instances_there = filter_map instance_in (places [] l)

  one_instance : (p : Path) (n m : Inst) → Among (p, n) instances_there → Among (p, m) instances_there → n ≡ m
  one_instance p n m a b = one_at p n m instances_there (subst (λ ps. path_sum (λ q. one_if (path_eq p q)) ps ≤ 1) (sym (tree_agrees app σ τ st l h).0.instances) (sum_once p (instances (draw app σ)) (instances_once app σ))) a b

  pub instance_gone : (z : Path × Inst) → Among z instances_there → nat_eq (times (id_of (instance_place z.0 z.1)) (renew_app app τ l st).0) 0 ≡ not (has_path z.0 (instances (draw app τ)))
  instance_gone z m =
      let e = (tree_agrees app τ τ (renew_app app τ l st).1 (renew_app app τ l st).0 (updated_stands app σ τ st l h cells)).0.instances in
      gone app σ τ st l h cells Inst instance_in instance_place is_instance (λ p n. refl) (λ p n. refl) (instances (draw app τ)) one_instance (λ p m. subst (Among p) e m) (λ p m. subst (Among p) (sym e) m) z m

pub destroys_gone : DestroysGone
destroys_gone app σ τ st l h cells = (
  filter_alike _ _ (filter_map modifier_in (places [] l)) (modifier_gone app σ τ st l h cells),
  filter_alike _ _ (filter_map instance_in (places [] l)) (instance_gone app σ τ st l h cells),
)
