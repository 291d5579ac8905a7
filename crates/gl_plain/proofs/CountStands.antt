-- The nodes and the positions of a tree that stands are its own, and what an update counts.
use Rattle.std.proofs.Common.{◌≡◌, ◌<◌, ◌≤◌, ℕ, ◌+◌, List, [], ◌∷◌, ◌++◌, Bool, true, false, Option, Some, None, cond, refl, sym, ap, ap₂, ◌∙◌, arith, inl, inr, ◌⊎◌}
use Rattle.std.specs.Prelude.{nat_le, filter}
use Rattle.std.proofs.lemmas.Bool.Decides.{leb_tells}
use Rattle.gl_meaning.specs.App.{App}
use Rattle.gl_meaning.specs.Eval.{Store, cell_value}
use Rattle.gl_meaning.specs.Laws.{NoPath, HoldsNoAction}
use Rattle.gl_meaning.proofs.Above.{owners_more}
use Rattle.gl_meaning.proofs.Plain.{cell_plain}
use Rattle.gl_plain.specs.Ids.{a_node, Id, ref, node, occurs}
use Rattle.gl_plain.specs.State.{State}
use Rattle.gl_plain.specs.Live
use Rattle.gl_plain.specs.Live.{item_made, Live, Lives, Items, times, times_in, times_items, times_comment}
use Rattle.gl_plain.specs.Stands.{Owned}
use Rattle.gl_plain.specs.Machine.{StandsFor}
use Rattle.gl_plain.specs.Renew.{renew_app}
use Rattle.gl_plain.specs.Counts.{comment_node, nodes_of, nodes_items, nodes_in, positions_of, Taken, AllPass, is_due}
use Rattle.gl_plain.specs.Laws.{UpdatedMakes, UpdatedEvaluates, UpdatedEvaluatesDue}
use Rattle.gl_plain.proofs.Moves.{hit_self, is_old}
use Rattle.gl_plain.proofs.Stay.{left_above, right_above}
use Rattle.gl_plain.proofs.Apart.{AnyStep}
use Rattle.gl_plain.proofs.CountRenews.{Fails, Turn, root_turn}

-- The test fails for each number of the part's own ids.
module _ (test : ℕ → Bool) where
  fails_join : (xs ys : List ℕ) → Fails test xs → Fails test ys → Fails test (xs ++ ys)
  fails_join [] ys h g = g
  fails_join (x ∷ xs) ys h g = (h.0, fails_join xs ys h.1 g)

  -- Nodes

  abbrev NodesFail : (Id → ℕ) → Type 0
  NodesFail count = (n : ℕ) → 0 < count (node n) → test n ≡ false

  comment_own : (k : Option ℕ) → NodesFail (λ q. times_comment q k) → Fails test (comment_node k)
  comment_own None f = tt
  comment_own (Some n) f = (f n (hit_self (node n)), tt)

  arm_own : (k : Option ℕ) (ls : Lives) (ca : Id → ℕ) → (NodesFail (λ q. times_in q ls) → Fails test (nodes_in ls)) → NodesFail (λ q. ca q + (times_in q ls + times_comment q k)) → Fails test (nodes_in ls ++ comment_node k)
  arm_own k ls ca h f = fails_join (nodes_in ls) (comment_node k) (h (λ n w. f n (right_above _ _ (left_above _ _ w)))) (comment_own k (λ n w. f n (right_above _ _ (right_above _ _ w))))

  mutual
    pub nodes_own : (l : Live) → NodesFail (λ q. times q l) → Fails test (nodes_of l)
    nodes_own (Live.still n) f = (f n (hit_self (node n)), tt)
    nodes_own (Live.put_live n z) f = (f n (left_above _ _ (hit_self (node n))), tt)
    nodes_own (Live.element_live n made xs zs ls) f = (f n (left_above _ _ (left_above _ _ (hit_self (node n)))), nodes_in_own ls (λ k w. f k (right_above _ _ (left_above _ _ w))))
    nodes_own (Live.branch_live z u k ls) f = arm_own k ls (λ q. occurs q z.made) (nodes_in_own ls) f
    nodes_own (Live.listed z is) f = nodes_items_own is (λ n w. f n (right_above _ _ w))
    nodes_own (Live.unlisted z k ls) f = arm_own k ls (λ q. occurs q z.made) (nodes_in_own ls) f
    nodes_own (Live.let_live made rs ls) f = nodes_in_own ls (λ n w. f n (right_above _ _ w))
    nodes_own (Live.component_live i made gm args b ls) f = nodes_in_own ls (λ n w. f n (right_above _ _ w))
    nodes_own (Live.yield_live k made rs ls) f = nodes_in_own ls (λ n w. f n (right_above _ _ w))
    nodes_own (Live.deep_live p) f = tt

    nodes_items_own : (is : Items) → NodesFail (λ q. times_items q is) → Fails test (nodes_items is)
    nodes_items_own Live.no_items f = tt
    nodes_items_own (Live.item_live z k ls is) f =
        fails_join (nodes_in ls ++ comment_node k) (nodes_items is) (arm_own k ls (λ q. occurs q (item_made z)) (nodes_in_own ls) (λ n w. f n (left_above _ _ w))) (nodes_items_own is (λ n w. f n (right_above _ _ w)))

    nodes_in_own : (ls : Lives) → NodesFail (λ q. times_in q ls) → Fails test (nodes_in ls)
    nodes_in_own Live.no_lives f = tt
    nodes_in_own (Live.live_and l ls) f = fails_join (nodes_of l) (nodes_in ls) (nodes_own l (λ n w. f n (left_above _ _ w))) (nodes_in_own ls (λ n w. f n (right_above _ _ w)))

-- the test whether a number is a new one fails for an old one
not_new : (n k : ℕ) → k < n → nat_le n k ≡ false
not_new n k lt = by (leb_tells n k) where
  by : ((nat_le n k ≡ true) × (n ≤ k)) ⊎ ((nat_le n k ≡ false) × (k < n)) → nat_le n k ≡ false
  by (inl h) = let i = h.1 in absurd (omega (arith, i, lt))
  by (inr h) = h.0

pub nodes_old : (st : State) (l : Live) → Owned st (λ q. times q l) → Fails (λ n. nat_le (st.next a_node) n) (nodes_of l)
nodes_old st l o = nodes_own (λ n. nat_le (st.next a_node) n) l (λ n w. not_new (st.next a_node) n (is_old st (λ q. times q l) o (node n) w))

app_turn : (app : App) (σ τ : Store) (st : State) (l : Live) → StandsFor app σ τ st l
    → let r = renew_app app τ l st in Turn st r.1.touched (HoldsNoAction σ) [] AnyStep st r.1 (λ q. times q l) (nodes_of r.0) (positions_of r.0)
app_turn app σ τ st l h =
    root_turn st (renew_app app τ l st).1.touched (HoldsNoAction σ) app σ τ (λ g P i x. owners_more NoPath P (λ j n. absurd n) (cell_value app σ i x) (cell_plain NoPath app σ g i x)) app.limit l st h.stands (nodes_old st l h.owned)
    (record { nodes = omega arith; refs = omega arith; warm = λ x e. e })
    (record { once = λ r. h.owned.once (ref r); low = λ r w. is_old st (λ q. times q l) h.owned (ref r) w; rows = λ r w. refl })

-- what was taken and passes is all that passes
all_taken : (test : ℕ → Bool) (qs rs : List ℕ) → Taken test qs rs → AllPass test rs → rs ≡ filter test qs
all_taken test [] [] h g = refl
all_taken test [] (r ∷ rs) h g = absurd h
all_taken test (q ∷ qs) [] h g = all_taken test qs [] h.1 tt ∙ sym (ap (λ b. cond b (q ∷ filter test qs) (filter test qs)) h.0)
all_taken test (q ∷ qs) (r ∷ rs) h g = by h (all_taken test qs rs) (all_taken test qs (r ∷ rs)) where
  by : ((q ≡ r) × Taken test qs rs) ⊎ ((test q ≡ false) × Taken test qs (r ∷ rs)) → (Taken test qs rs → AllPass test rs → rs ≡ filter test qs) → (Taken test qs (r ∷ rs) → AllPass test (r ∷ rs) → r ∷ rs ≡ filter test qs)
      → r ∷ rs ≡ cond (test q) (q ∷ filter test qs) (filter test qs)
  by (inl k) f g' = ap₂ (λ x xs. x ∷ xs) (sym k.0) (f k.1 g.1) ∙ sym (ap (λ b. cond b (q ∷ filter test qs) (filter test qs)) (ap test k.0 ∙ g.0))
  by (inr k) f g' = g' k.1 g ∙ sym (ap (λ b. cond b (q ∷ filter test qs) (filter test qs)) k.0)

pub updated_makes : UpdatedMakes
updated_makes app σ τ st l h = (app_turn app σ τ st l h).nodes

pub updated_evaluates : UpdatedEvaluates
updated_evaluates app σ τ st l h = let g = app_turn app σ τ st l h in (g.read, g.positions, g.taken, g.allowed (λ x e. e))

pub updated_evaluates_due : UpdatedEvaluatesDue
updated_evaluates_due app σ τ st l h n =
    let g = app_turn app σ τ st l h in
    let r = renew_app app τ l st in
    g.positions ∙ ap (λ xs. st.evaluated ++ xs) (all_taken (is_due st r.1.touched) (positions_of r.0) g.read (g.exact n (λ x w. refl)) (g.allowed (λ x e. e)))
