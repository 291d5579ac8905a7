-- What an update installs is what is new, and what it updates is what is stale.
use Rattle.std.proofs.Common.{◌≡◌, ◌<◌, ◌≤◌, ◌+◌, ℕ, List, [], ◌∷◌, ◌++◌, map, Bool, true, false, true≢false, Option, Some, None, cond, refl, sym, ap, ap₂, ◌∙◌, subst, arith, inl, inr, ◌⊎◌}
use Rattle.std.specs.Prelude.{filter, filter_map, nat_le, not, ◌&&◌, ◌||◌, if◌then◌else◌}
use Rattle.std.specs.List.{list_any, cons_option}
use Rattle.std.proofs.lemmas.Bool.{le-leb, lt-leb}
use Rattle.gl_meaning.specs.App.{App}
use Rattle.gl_meaning.specs.Path.{Path, path_eq, has_path}
use Rattle.gl_meaning.specs.Scope.{Source}
use Rattle.gl_meaning.specs.Eval.{Store}
use Rattle.gl_meaning.specs.Known.{Among}
use Rattle.gl_meaning.specs.Laws.{NoRepeat, HoldsNoAction}
use Rattle.gl_meaning.specs.Render.{draw}
use Rattle.gl_meaning.specs.Changes.{Position, positions, Sets, some_touched, stale}
use Rattle.gl_meaning.specs.Print.{modifier_paths}
use Rattle.gl_meaning.proofs.Equal.{path_means, path_itself}
use Rattle.gl_meaning.proofs.Pieces.{some_same, none_some, any_false}
use Rattle.gl_plain.specs.Ids.{a_ref, a_modifier, Id, ref, modifier_id, occurs}
use Rattle.gl_plain.specs.State.{State}
use Rattle.gl_plain.specs.Live.{Live, times}
use Rattle.gl_plain.specs.Renew.{renew_app}
use Rattle.gl_plain.specs.Counts.{positions_of, is_due}
use Rattle.gl_plain.specs.Machine.{StandsFor, OnlyTouched}
use Rattle.gl_plain.proofs.Moves.{is_old, hit_self}
use Rattle.gl_plain.proofs.Roots.{updated_stands}
use Rattle.gl_plain.proofs.CountRenews.{Fails}
use Rattle.gl_plain.proofs.CountStands.{updated_evaluates_due}
use Rattle.gl_plain.proofs.CountOnce.{each_stands_once}
use Rattle.gl_turns.specs.Places.{Place, node_place, position_place, item_place, instance_place, modifier_place, path_of, id_of, position_in, modifier_in, places}
use Rattle.gl_turns.specs.Modifiers.{modifiers_of}
use Rattle.gl_turns.specs.Evaluated.{TouchedBy, new_or_stale}
use Rattle.gl_turns.specs.Laws.{InstallsNew, UpdatesStale}
use Rattle.gl_turns.proofs.Found.{found_from, found_in, among_mapped, has_it, has_not}
use Rattle.gl_turns.proofs.Sites.{root_counted}
use Rattle.gl_turns.proofs.Kept.{KeptOne}
use Rattle.gl_turns.proofs.Agrees.{path_sum}
use Rattle.gl_turns.proofs.Numbered.{tree_agrees}
use Rattle.gl_turns.proofs.Evaluated.{one_if, kept, in_old, not_in_old, due_is, any_not}
use Rattle.gl_turns.proofs.LogRenews.{Tag, tags_of, refs_of_tags, tag_ids, tags_refs, tags_ids, with_new, with_old, Decides, Logs, root_logs}
use Rattle.gl_turns.proofs.Tagged.{PathTag, tagged, position_tag, with_path, modifier_tag, tagged_plain, tagged_positions, modifiers_meet}

-- Lists

abbrev first_or : ℕ → List ℕ → ℕ
first_or d [] = d
first_or d (x ∷ xs) = x

abbrev rest_of : List ℕ → List ℕ
rest_of [] = []
rest_of (x ∷ xs) = xs

rest_same : (x y : ℕ) (xs ys : List ℕ) → x ∷ xs ≡ y ∷ ys → xs ≡ ys
rest_same x y xs ys e = ap rest_of e

cancel : (xs ys zs : List ℕ) → xs ++ ys ≡ xs ++ zs → ys ≡ zs
cancel [] ys zs e = e
cancel (x ∷ xs) ys zs e = cancel xs ys zs (rest_same x x (xs ++ ys) (xs ++ zs) e)

filter_among : (test : ℕ → Bool) (r : ℕ) (xs : List ℕ) → Among r (filter test xs) → Among r xs
filter_among test r [] m = m
filter_among test r (x ∷ xs) m = by (test x) (filter_among test r xs) m where
  by : (b : Bool) → (Among r (filter test xs) → Among r xs) → Among r (cond b (x ∷ filter test xs) (filter test xs)) → Among r (x ∷ xs)
  by true h (inl e) = inl e
  by true h (inr k) = inr (h k)
  by false h k = inr (h k)

-- where no reference stands twice
among_occurs : (r : ℕ) (xs : List ℕ) → Among r xs → 0 < occurs (ref r) (map ref xs)
among_occurs r [] m = absurd m
among_occurs r (x ∷ xs) (inl e) = subst (λ y. 0 < Rattle.gl_plain.specs.Ids.hit (ref r) (ref y) + occurs (ref r) (map ref xs)) e (let h = hit_self (ref r) in omega (arith, h))
among_occurs r (x ∷ xs) (inr m) = let h = among_occurs r xs m in omega (arith, h)

once_each : (xs : List ℕ) → ((r : ℕ) → occurs (ref r) (map ref xs) ≤ 1) → NoRepeat xs
once_each [] h = tt
once_each (x ∷ xs) h = (
  (λ m. let a = among_occurs x xs m in let b = h x in let c = hit_self (ref x) in omega (arith, a, b, c)),
  once_each xs (λ r. let a = h r in omega (arith, a)),
)

-- What was decided

module _ (first : ℕ) where
  abbrev news : List Tag → List ℕ
  news [] = []
  news (z ∷ zs) = with_new first z.1 (news zs)

  abbrev olds : List Tag → List ℕ
  olds [] = []
  olds (z ∷ zs) = with_old first z.1 (olds zs)

  decided_among : (zs : List Tag) (es is us : List ℕ) → Decides first zs es is us → (r : ℕ) → Among r es → Among r (refs_of_tags zs)
  decided_among [] es is us h r m = subst (Among r) h.0 m
  decided_among (z ∷ zs) es is us (inl h) r m = inr (decided_among zs es is us h r m)
  decided_among (z ∷ zs) es is us (inr h) r m = by (subst (Among r) h.3 m) (decided_among zs h.0 h.1 h.2 h.6 r) where
    by : Among r (z.0 ∷ h.0) → (Among r h.0 → Among r (refs_of_tags zs)) → Among r (z.0 ∷ refs_of_tags zs)
    by (inl e) f = inl e
    by (inr k) f = inr (f k)

  -- it is known where what was evaluated is known
  determined : (due : ℕ → Bool) (zs : List Tag) (es is us : List ℕ) → NoRepeat (refs_of_tags zs) → Decides first zs es is us → es ≡ filter due (refs_of_tags zs) → (is ≡ news (filter (λ z. due z.0) zs)) × (us ≡ olds (filter (λ z. due z.0) zs))
  determined due [] es is us d h e = (h.1, h.2)
  determined due (z ∷ zs) es is us d h e = by (due z.0) h e (λ es' is' us'. determined due zs es' is' us' d.1) where
    by : (b : Bool) → Decides first (z ∷ zs) es is us → es ≡ cond b (z.0 ∷ filter due (refs_of_tags zs)) (filter due (refs_of_tags zs))
        → ((es' is' us' : List ℕ) → Decides first zs es' is' us' → es' ≡ filter due (refs_of_tags zs) → (is' ≡ news (filter (λ y. due y.0) zs)) × (us' ≡ olds (filter (λ y. due y.0) zs)))
        → (is ≡ news (cond b (z ∷ filter (λ y. due y.0) zs) (filter (λ y. due y.0) zs))) × (us ≡ olds (cond b (z ∷ filter (λ y. due y.0) zs) (filter (λ y. due y.0) zs)))
    by true (inl g) f rec = absurd (d.0 (decided_among zs es is us g z.0 (subst (Among z.0) (sym f) (inl refl))))
    by true (inr g) f rec = let k = rec g.0 g.1 g.2 g.6 (rest_same z.0 z.0 g.0 (filter due (refs_of_tags zs)) (sym g.3 ∙ f)) in (g.4 ∙ ap (with_new first z.1) k.0, g.5 ∙ ap (with_old first z.1) k.1)
    by false (inl g) f rec = rec es is us g f
    by false (inr g) f rec = absurd (d.0 (filter_among due z.0 (refs_of_tags zs) (subst (Among z.0) (sym g.3 ∙ f) (inl refl))))

  -- with paths
  pick_new : (due : ℕ → Bool) (test : Path → Bool) (zs : List PathTag) → ((z : PathTag) → Among z zs → (m : ℕ) → z.1.1 ≡ Some m → (nat_le first m && due z.1.0) ≡ test z.0)
      → news (filter (λ z. due z.0) (map (λ z. z.1) zs)) ≡ map (λ y. y.1) (filter (λ y. test y.0) (filter_map modifier_tag zs))
  pick_new due test [] h = refl
  pick_new due test ((p, (r, o)) ∷ zs) h = by o (h (p, (r, o)) (inl refl)) (pick_new due test zs (λ z m. h z (inr m))) where
    one : (m : ℕ) (b c : Bool) → due r ≡ b → nat_le first m ≡ c → (nat_le first m && due r) ≡ test p → news (filter (λ z. due z.0) (map (λ z. z.1) zs)) ≡ map (λ y. y.1) (filter (λ y. test y.0) (filter_map modifier_tag zs))
        → news (cond b ((r, Some m) ∷ filter (λ z. due z.0) (map (λ z. z.1) zs)) (filter (λ z. due z.0) (map (λ z. z.1) zs))) ≡ map (λ y. y.1) (cond (test p) ((p, m) ∷ filter (λ y. test y.0) (filter_map modifier_tag zs)) (filter (λ y. test y.0) (filter_map modifier_tag zs)))
    one m true true e f g k =
        ap (λ c. if c then m ∷ news (filter (λ z. due z.0) (map (λ z. z.1) zs)) else news (filter (λ z. due z.0) (map (λ z. z.1) zs))) f
        ∙ (ap (λ ys. m ∷ ys) k ∙ ap (λ c. map (λ y. y.1) (cond c ((p, m) ∷ filter (λ y. test y.0) (filter_map modifier_tag zs)) (filter (λ y. test y.0) (filter_map modifier_tag zs)))) (sym (ap₂ (λ a b. a && b) f e) ∙ g))
    one m true false e f g k =
        ap (λ c. if c then m ∷ news (filter (λ z. due z.0) (map (λ z. z.1) zs)) else news (filter (λ z. due z.0) (map (λ z. z.1) zs))) f
        ∙ (k ∙ ap (λ c. map (λ y. y.1) (cond c ((p, m) ∷ filter (λ y. test y.0) (filter_map modifier_tag zs)) (filter (λ y. test y.0) (filter_map modifier_tag zs)))) (sym (ap₂ (λ a b. a && b) f e) ∙ g))
    one m false true e f g k = k ∙ ap (λ c. map (λ y. y.1) (cond c ((p, m) ∷ filter (λ y. test y.0) (filter_map modifier_tag zs)) (filter (λ y. test y.0) (filter_map modifier_tag zs)))) (sym (ap₂ (λ a b. a && b) f e) ∙ g)
    one m false false e f g k = k ∙ ap (λ c. map (λ y. y.1) (cond c ((p, m) ∷ filter (λ y. test y.0) (filter_map modifier_tag zs)) (filter (λ y. test y.0) (filter_map modifier_tag zs)))) (sym (ap₂ (λ a b. a && b) f e) ∙ g)

    skip : (b : Bool) → news (filter (λ z. due z.0) (map (λ z. z.1) zs)) ≡ map (λ y. y.1) (filter (λ y. test y.0) (filter_map modifier_tag zs))
        → news (cond b ((r, None) ∷ filter (λ z. due z.0) (map (λ z. z.1) zs)) (filter (λ z. due z.0) (map (λ z. z.1) zs))) ≡ map (λ y. y.1) (filter (λ y. test y.0) (filter_map modifier_tag zs))
    skip true k = k
    skip false k = k

    by : (o : Option ℕ) → ((m : ℕ) → o ≡ Some m → (nat_le first m && due r) ≡ test p) → news (filter (λ z. due z.0) (map (λ z. z.1) zs)) ≡ map (λ y. y.1) (filter (λ y. test y.0) (filter_map modifier_tag zs))
        → news (cond (due r) ((r, o) ∷ filter (λ z. due z.0) (map (λ z. z.1) zs)) (filter (λ z. due z.0) (map (λ z. z.1) zs))) ≡ map (λ y. y.1) (filter (λ y. test y.0) (cons_option (with_path p o) (filter_map modifier_tag zs)))
    by None g k = skip (due r) k
    by (Some m) g k = one m (due r) (nat_le first m) refl refl (g m refl) k

  pick_old : (due : ℕ → Bool) (test : Path → Bool) (zs : List PathTag) → ((z : PathTag) → Among z zs → (m : ℕ) → z.1.1 ≡ Some m → (not (nat_le first m) && due z.1.0) ≡ test z.0)
      → olds (filter (λ z. due z.0) (map (λ z. z.1) zs)) ≡ map (λ y. y.1) (filter (λ y. test y.0) (filter_map modifier_tag zs))
  pick_old due test [] h = refl
  pick_old due test ((p, (r, o)) ∷ zs) h = by o (h (p, (r, o)) (inl refl)) (pick_old due test zs (λ z m. h z (inr m))) where
    one : (m : ℕ) (b c : Bool) → due r ≡ b → nat_le first m ≡ c → (not (nat_le first m) && due r) ≡ test p → olds (filter (λ z. due z.0) (map (λ z. z.1) zs)) ≡ map (λ y. y.1) (filter (λ y. test y.0) (filter_map modifier_tag zs))
        → olds (cond b ((r, Some m) ∷ filter (λ z. due z.0) (map (λ z. z.1) zs)) (filter (λ z. due z.0) (map (λ z. z.1) zs))) ≡ map (λ y. y.1) (cond (test p) ((p, m) ∷ filter (λ y. test y.0) (filter_map modifier_tag zs)) (filter (λ y. test y.0) (filter_map modifier_tag zs)))
    one m true true e f g k =
        ap (λ c. if c then olds (filter (λ z. due z.0) (map (λ z. z.1) zs)) else m ∷ olds (filter (λ z. due z.0) (map (λ z. z.1) zs))) f
        ∙ (k ∙ ap (λ c. map (λ y. y.1) (cond c ((p, m) ∷ filter (λ y. test y.0) (filter_map modifier_tag zs)) (filter (λ y. test y.0) (filter_map modifier_tag zs)))) (sym (ap₂ (λ a b. not a && b) f e) ∙ g))
    one m true false e f g k =
        ap (λ c. if c then olds (filter (λ z. due z.0) (map (λ z. z.1) zs)) else m ∷ olds (filter (λ z. due z.0) (map (λ z. z.1) zs))) f
        ∙ (ap (λ ys. m ∷ ys) k ∙ ap (λ c. map (λ y. y.1) (cond c ((p, m) ∷ filter (λ y. test y.0) (filter_map modifier_tag zs)) (filter (λ y. test y.0) (filter_map modifier_tag zs)))) (sym (ap₂ (λ a b. not a && b) f e) ∙ g))
    one m false true e f g k = k ∙ ap (λ c. map (λ y. y.1) (cond c ((p, m) ∷ filter (λ y. test y.0) (filter_map modifier_tag zs)) (filter (λ y. test y.0) (filter_map modifier_tag zs)))) (sym (ap₂ (λ a b. not a && b) f e) ∙ g)
    one m false false e f g k = k ∙ ap (λ c. map (λ y. y.1) (cond c ((p, m) ∷ filter (λ y. test y.0) (filter_map modifier_tag zs)) (filter (λ y. test y.0) (filter_map modifier_tag zs)))) (sym (ap₂ (λ a b. not a && b) f e) ∙ g)

    skip : (b : Bool) → olds (filter (λ z. due z.0) (map (λ z. z.1) zs)) ≡ map (λ y. y.1) (filter (λ y. test y.0) (filter_map modifier_tag zs))
        → olds (cond b ((r, None) ∷ filter (λ z. due z.0) (map (λ z. z.1) zs)) (filter (λ z. due z.0) (map (λ z. z.1) zs))) ≡ map (λ y. y.1) (filter (λ y. test y.0) (filter_map modifier_tag zs))
    skip true k = k
    skip false k = k

    by : (o : Option ℕ) → ((m : ℕ) → o ≡ Some m → (not (nat_le first m) && due r) ≡ test p) → olds (filter (λ z. due z.0) (map (λ z. z.1) zs)) ≡ map (λ y. y.1) (filter (λ y. test y.0) (filter_map modifier_tag zs))
        → olds (cond (due r) ((r, o) ∷ filter (λ z. due z.0) (map (λ z. z.1) zs)) (filter (λ z. due z.0) (map (λ z. z.1) zs))) ≡ map (λ y. y.1) (filter (λ y. test y.0) (cons_option (with_path p o) (filter_map modifier_tag zs)))
    by None g k = skip (due r) k
    by (Some m) g k = one m (due r) (nat_le first m) refl refl (g m refl) k

pub ids_found : (ts : List PathTag) → tag_ids (map (λ z. z.1) ts) ≡ map (λ y. y.1) (filter_map modifier_tag ts)
ids_found [] = refl
ids_found ((p, (r, None)) ∷ ts) = ids_found ts
ids_found ((p, (r, Some m)) ∷ ts) = ap (λ ys. m ∷ ys) (ids_found ts)

all_fail : (test : ℕ → Bool) (zs : List (Path × ℕ)) → ((z : Path × ℕ) → Among z zs → test z.1 ≡ false) → Fails test (map (λ y. y.1) zs)
all_fail test [] h = tt
all_fail test (z ∷ zs) h = (h z (inl refl), all_fail test zs (λ y m. h y (inr m)))

pub is_modifier : (a : Place) (z : Path × ℕ) → modifier_in a ≡ Some z → a ≡ modifier_place z.0 z.1
is_modifier (modifier_place p n) z e = ap (λ (y : Path × ℕ). modifier_place y.0 y.1) (some_same (p, n) z e)
is_modifier (node_place p n) z e = absurd (none_some z e)
is_modifier (position_place p n) z e = absurd (none_some z e)
is_modifier (item_place p n) z e = absurd (none_some z e)
is_modifier (instance_place p n) z e = absurd (none_some z e)

is_position : (a : Place) (z : Path × ℕ) → position_in a ≡ Some z → a ≡ position_place z.0 z.1
is_position (position_place p n) z e = ap (λ (y : Path × ℕ). position_place y.0 y.1) (some_same (p, n) z e)
is_position (node_place p n) z e = absurd (none_some z e)
is_position (item_place p n) z e = absurd (none_some z e)
is_position (instance_place p n) z e = absurd (none_some z e)
is_position (modifier_place p n) z e = absurd (none_some z e)

-- paths by sums

pub sum_has : (p : Path) (ps : List Path) → Among p ps → 0 < path_sum (λ q. one_if (path_eq p q)) ps
sum_has p [] m = absurd m
sum_has p (q ∷ qs) (inl e) = let h : one_if (path_eq p q) ≡ 1 = ap one_if (subst (λ r. path_eq p r ≡ true) e (path_itself p)) in omega (arith, h)
sum_has p (q ∷ qs) (inr m) = let h = sum_has p qs m in omega (arith, h)

pub sum_from : (p : Path) (ps : List Path) → 0 < path_sum (λ q. one_if (path_eq p q)) ps → Among p ps
sum_from p [] w = absurd (omega (arith, w))
sum_from p (q ∷ qs) w = by (path_eq p q) refl (sum_from p qs) w where
  by : (b : Bool) → path_eq p q ≡ b → (0 < path_sum (λ r. one_if (path_eq p r)) qs → Among p qs) → 0 < one_if b + path_sum (λ r. one_if (path_eq p r)) qs → Among p (q ∷ qs)
  by true e f u = inl (path_means p q e)
  by false e f u = inr (f (omega (arith, u)))

module _ (app : App) (σ τ : Store) (sets : Sets) (st : State) (l : Live) (h : StandsFor app σ τ st l) (cells : OnlyTouched app σ τ st) (by_sets : TouchedBy sets st) where
  abbrev end : Source → Bool
  end x = (renew_app app τ l st).1.touched x

  abbrev tags : List PathTag
  tags = tagged [] (renew_app app τ l st).0

  in_paths : (p : Path) → Among p (map (λ z. z.0) (filter_map modifier_in (places [] l))) → has_path p (modifier_paths (draw app σ)) ≡ true
  in_paths p m =
      let w = sum_has p (map (λ z. z.0) (filter_map modifier_in (places [] l))) m in
      let e = (tree_agrees app σ τ st l h).0.modifiers (λ q. one_if (path_eq p q)) in
      has_it p (modifier_paths (draw app σ)) (sum_from p (modifier_paths (draw app σ)) (omega (arith, w, e)))

  not_in_paths : (p : Path) → (Among p (map (λ z. z.0) (filter_map modifier_in (places [] l))) → ⊥) → has_path p (modifier_paths (draw app σ)) ≡ false
  not_in_paths p d =
      has_not p (modifier_paths (draw app σ))
      (λ m.
      let w = sum_has p (modifier_paths (draw app σ)) m in
      let e = (tree_agrees app σ τ st l h).0.modifiers (λ q. one_if (path_eq p q)) in
      d (sum_from p (map (λ z. z.0) (filter_map modifier_in (places [] l))) (omega (arith, w, e))))

  -- A modifier of the new tree: it is old, and its position is due just where it is stale, or it is new, and due and not stale.
  abbrev Facts : PathTag → ℕ → Type 0
  Facts z m =
      ((nat_le (st.next a_modifier) m ≡ false) × (is_due st end z.1.0 ≡ stale (draw app σ) (draw app τ) sets z.0) × (has_path z.0 (modifier_paths (draw app σ)) ≡ true))
      ⊎ ((nat_le (st.next a_modifier) m ≡ true) × (is_due st end z.1.0 ≡ true) × (has_path z.0 (modifier_paths (draw app σ)) ≡ false) × (stale (draw app σ) (draw app τ) sets z.0 ≡ false))

  facts : (z : PathTag) → Among z tags → (m : ℕ) → z.1.1 ≡ Some m → Facts z m
  facts z n m e =
      let at_pos = subst (Among (z.0, z.1.0)) (tagged_positions [] (renew_app app τ l st).0) (among_mapped position_tag z tags n) in
      let at_mod = subst (Among (z.0, m)) (modifiers_meet [] (renew_app app τ l st).0) (found_in modifier_tag (z.0, m) z tags (ap (with_path z.0) e) n) in
      let fm = found_from modifier_in (z.0, m) (places [] (renew_app app τ l st).0) at_mod in
      let fp = found_from position_in (z.0, z.1.0) (places [] (renew_app app τ l st).0) at_pos in
      by at_pos fm.0 (is_modifier fm.0 (z.0, m) fm.2) (kept app σ τ sets st l h cells by_sets fm.0 fm.1) fp.0 (is_position fp.0 (z.0, z.1.0) fp.2) (kept app σ τ sets st l h cells by_sets fp.0 fp.1) where
        due : Among (z.0, z.1.0) (filter_map position_in (places [] (renew_app app τ l st).0)) → is_due st end z.1.0 ≡ new_or_stale (draw app σ) (draw app τ) sets z.0
        due w = due_is app σ τ sets st l h cells by_sets (z.0, z.1.0) w

        less : (b c : Bool) → b ≡ false → (b && c) ≡ false
        less true c e = absurd (true≢false e)
        less false c e = refl

        not_stale : list_any (λ o. path_eq z.0 o.path) (positions (draw app σ)) ≡ false → stale (draw app σ) (draw app τ) sets z.0 ≡ false
        not_stale e =
            less _ _
            (any_not (λ q. path_eq z.0 q.path && some_touched (draw app σ) (draw app τ) sets q.pairs) (positions (draw app σ)) (λ q w. less (path_eq z.0 q.path) _ (any_false (λ (o : Position). path_eq z.0 o.path) q (positions (draw app σ)) w e)))

        by : Among (z.0, z.1.0) (filter_map position_in (places [] (renew_app app τ l st).0)) → (a : Place) → a ≡ modifier_place z.0 m → KeptOne st.next (places [] l) a → (b : Place) → b ≡ position_place z.0 z.1.0 → KeptOne st.next (places [] l) b → Facts z m
        by w a ea (inl ka) b eb (inl kb) =
            let ma = subst (λ c. Among c (places [] l)) ea ka in
            let pb = found_in position_in (z.0, z.1.0) (position_place z.0 z.1.0) (places [] l) refl (subst (λ c. Among c (places [] l)) eb kb) in
            inl (
              lt-leb (st.next a_modifier) m (is_old st (λ q. times q l) h.owned (modifier_id m) (root_counted l (tree_agrees app σ τ st l h).1 (modifier_place z.0 m) ma)),
              due w ∙ ap (λ c. not c || stale (draw app σ) (draw app τ) sets z.0) (in_old app σ τ sets st l h cells by_sets (z.0, z.1.0) pb),
              in_paths z.0 (among_mapped (λ (y : Path × ℕ). y.0) (z.0, m) (filter_map modifier_in (places [] l)) (found_in modifier_in (z.0, m) (modifier_place z.0 m) (places [] l) refl ma)),
            )
        by w a ea (inl ka) b eb (inr kb) = absurd (kb.1 a ka (ap path_of eb ∙ sym (ap path_of ea)))
        by w a ea (inr ka) b eb (inl kb) = absurd (ka.1 b kb (ap path_of ea ∙ sym (ap path_of eb)))
        by w a ea (inr ka) b eb (inr kb) =
            let absent = not_in_old app σ τ sets st l h cells by_sets z.0 (λ y u q. let f = found_from position_in y (places [] l) u in kb.1 f.0 f.1 (ap path_of eb ∙ (q ∙ sym (ap path_of (is_position f.0 y f.2))))) in
            inr (
              le-leb (st.next a_modifier) m (subst (λ c. st.next (id_of c).kind ≤ (id_of c).num) ea ka.0),
              due w ∙ ap (λ c. not c || stale (draw app σ) (draw app τ) sets z.0) absent,
              not_in_paths z.0
                  (λ u.
                  let y = Rattle.gl_turns.proofs.Found.mapped_from (λ (x : Path × ℕ). x.0) z.0 (filter_map modifier_in (places [] l)) u in
                  let f = found_from modifier_in y.0 (places [] l) y.1 in ka.1 f.0 f.1 (ap path_of ea ∙ (y.2 ∙ sym (ap path_of (is_modifier f.0 y.0 f.2))))),
              not_stale absent,
            )

  for_new : (z : PathTag) (m : ℕ) → Facts z m → (nat_le (st.next a_modifier) m && is_due st end z.1.0) ≡ not (has_path z.0 (modifier_paths (draw app σ)))
  for_new z m (inl f) = ap (λ b. b && is_due st end z.1.0) f.0 ∙ sym (ap not f.2)
  for_new z m (inr f) = ap₂ (λ b c. b && c) f.0 f.1 ∙ sym (ap not f.2)

  for_old : (z : PathTag) (m : ℕ) → Facts z m → (not (nat_le (st.next a_modifier) m) && is_due st end z.1.0) ≡ stale (draw app σ) (draw app τ) sets z.0
  for_old z m (inl f) = ap (λ b. not b && is_due st end z.1.0) f.0 ∙ f.1
  for_old z m (inr f) = ap (λ b. not b && is_due st end z.1.0) f.0 ∙ sym f.3

  all_old : Fails (λ m. nat_le (st.next a_modifier) m) (modifiers_of l)
  all_old =
      subst (Fails (λ m. nat_le (st.next a_modifier) m))
      (sym (sym (tags_ids l) ∙ (ap tag_ids (sym (tagged_plain [] l)) ∙ (ids_found (tagged [] l) ∙ ap (map (λ y. y.1)) (modifiers_meet [] l)))))
      (all_fail (λ m. nat_le (st.next a_modifier) m) (filter_map modifier_in (places [] l))
      (λ z m.
      let f = found_from modifier_in z (places [] l) m in
      lt-leb (st.next a_modifier) z.1 (is_old st (λ q. times q l) h.owned (modifier_id z.1) (root_counted l (tree_agrees app σ τ st l h).1 (modifier_place z.0 z.1) (subst (λ a. Among a (places [] l)) (is_modifier f.0 z f.2) f.1)))))

  step : Logs (st.next a_modifier) st (renew_app app τ l st).1 (tags_of (renew_app app τ l st).0)
  step = root_logs (st.next a_modifier) app τ app.limit l st (omega arith) all_old

  decided : HoldsNoAction σ → let g = step in let ts = tags_of (renew_app app τ l st).0 in (g.new ≡ news (st.next a_modifier) (filter (λ z. is_due st end z.0) ts)) × (g.old ≡ olds (st.next a_modifier) (filter (λ z. is_due st end z.0) ts))
  decided plain =
      let g = step in
      let ts = tags_of (renew_app app τ l st).0 in
      let refs = tags_refs (renew_app app τ l st).0 in
      let once = once_each (positions_of (renew_app app τ l st).0) (each_stands_once app τ τ (renew_app app τ l st).1 (renew_app app τ l st).0 (updated_stands app σ τ st l h cells)).1 in
      determined (st.next a_modifier) (is_due st end) ts g.read g.new g.old (subst NoRepeat (sym refs) once) g.decides
      (cancel st.evaluated g.read (filter (is_due st end) (positions_of (renew_app app τ l st).0)) (sym g.evaluated ∙ updated_evaluates_due app σ τ st l h plain) ∙ ap (filter (is_due st end)) (sym refs))

  pub installed : HoldsNoAction σ
      → (renew_app app τ l st).1.installs ≡ st.installs ++ map (λ z. z.1) (filter (λ z. not (has_path z.0 (modifier_paths (draw app σ)))) (filter_map modifier_in (places [] (renew_app app τ l st).0)))
  installed plain =
      step.installs
      ∙ ap (λ xs. st.installs ++ xs)
      ((decided plain).0
      ∙ (ap (λ ts. news (st.next a_modifier) (filter (λ z. is_due st end z.0) ts)) (sym (tagged_plain [] (renew_app app τ l st).0))
      ∙ (pick_new (st.next a_modifier) (is_due st end) (λ p. not (has_path p (modifier_paths (draw app σ)))) tags (λ z n m e. for_new z m (facts z n m e))
      ∙ ap (λ zs. map (λ z. z.1) (filter (λ z. not (has_path z.0 (modifier_paths (draw app σ)))) zs)) (modifiers_meet [] (renew_app app τ l st).0))))

  pub updated : HoldsNoAction σ → (renew_app app τ l st).1.updates ≡ st.updates ++ map (λ z. z.1) (filter (λ z. stale (draw app σ) (draw app τ) sets z.0) (filter_map modifier_in (places [] (renew_app app τ l st).0)))
  updated plain =
      step.updates
      ∙ ap (λ xs. st.updates ++ xs)
      ((decided plain).1
      ∙ (ap (λ ts. olds (st.next a_modifier) (filter (λ z. is_due st end z.0) ts)) (sym (tagged_plain [] (renew_app app τ l st).0))
      ∙ (pick_old (st.next a_modifier) (is_due st end) (stale (draw app σ) (draw app τ) sets) tags (λ z n m e. for_old z m (facts z n m e))
      ∙ ap (λ zs. map (λ z. z.1) (filter (λ z. stale (draw app σ) (draw app τ) sets z.0) zs)) (modifiers_meet [] (renew_app app τ l st).0))))

pub installs_new : InstallsNew
installs_new app σ τ sets st l h cells s plain = installed app σ τ sets st l h cells s plain

pub updates_stale : UpdatesStale
updates_stale app σ τ sets st l h cells s plain = updated app σ τ sets st l h cells s plain
