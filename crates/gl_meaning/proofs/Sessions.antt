-- What holds after each turn of a session.
use Rattle.std.proofs.Common.{◌≡◌, ◌≤◌, ◌<◌, ℕ, List, [], ◌∷◌, Bool, true, false, Option, Some, None, refl, sym, ap, ◌∙◌, subst, inl, inr, arith}
use Rattle.std.specs.Prelude.{if◌then◌else◌}
use Rattle.gl_base.specs.Texts.{Text}
use Rattle.gl_meaning.specs.App.{App, Event}
use Rattle.gl_meaning.specs.Path.{Path, V, at_path}
use Rattle.gl_meaning.specs.Eval.{Store, cell_value}
use Rattle.gl_meaning.specs.Render.{Forest, draw, fits, render}
use Rattle.gl_meaning.specs.Changes.{Position, positions, settle, Numbers, number, Sets, stale}
use Rattle.gl_meaning.specs.Actions.{lay, run_at, run, owner_nesting}
use Rattle.gl_meaning.specs.Session.{State, first_state, Turn, applied, turn_of, step, go_on, session_from, session}
use Rattle.gl_meaning.specs.Known.{Among}
use Rattle.gl_meaning.specs.Laws.{Before, Owners, NoPath, HoldsNoAction, AllReadAbove, ValidNumbers, Reached, started, stepped}
use Rattle.gl_meaning.proofs.Pieces.{some_same, none_some}
use Rattle.gl_meaning.proofs.Settled.{draw_settled, settle_settled}
use Rattle.gl_meaning.proofs.Touched.{only_stale_changes}
use Rattle.gl_meaning.proofs.Plain.{cell_plain, turn_plain}
use Rattle.gl_meaning.proofs.Above.{owners_more, draw_good}
use Rattle.gl_meaning.proofs.Calls.{run_enough}
use Rattle.gl_meaning.proofs.Numbers.{number_again, numbers_stay_valid, next_grows}

-- A turn

-- the cells after the event's sets, before they are settled
abbrev pub laid : App → State → Option Event → Store
laid app s e = lay (applied app s e).sets s.store

-- the turn of a step that is made
abbrev pub made : App → State → Option Event → Turn
made app s e = turn_of app s e (applied app s e) (draw app (laid app s e))

pub stepped-turn : (app : App) (s : State) (e : Option Event) (t : Turn) → step app s e ≡ Some t → (fits (draw app (laid app s e)) ≡ true) × (made app s e ≡ t)
stepped-turn app s e t q = chosen (fits (draw app (laid app s e))) refl q where
  chosen : (b : Bool) → fits (draw app (laid app s e)) ≡ b → (if b then Some (made app s e) else None) ≡ Some t → (fits (draw app (laid app s e)) ≡ true) × (made app s e ≡ t)
  chosen true h k = (h, some_same (made app s e) t k)
  chosen false h k = absurd (none_some t k)

-- The same of every state that is reached

-- what each turn brings, from what holds before it, holds after each turn
by-turns : (app : App) (P : State → Type 0) → P first_state → ((s : State) (e : Option Event) → fits (draw app (laid app s e)) ≡ true → P s → P (made app s e).state) → (s : State) → Reached app s → P s
by-turns app P first h s (started {t = t} q) = let m = stepped-turn app first_state None t q in subst (λ t. P t.state) m.1 (h first_state None m.0 first)
by-turns app P first h s (stepped {s = before} {t = t} e r q) = let m = stepped-turn app before (Some e) t q in subst (λ t. P t.state) m.1 (h before (Some e) m.0 (by-turns app P first h before r))

-- what each turn brings by itself
pub after-turns : (app : App) (P : State → Type 0) → ((s : State) (e : Option Event) → fits (draw app (laid app s e)) ≡ true → P (made app s e).state) → (s : State) → Reached app s → P s
after-turns app P h s (started {t = t} q) = let m = stepped-turn app first_state None t q in subst (λ t. P t.state) m.1 (h first_state None m.0)
after-turns app P h s (stepped {s = before} {t = t} e r q) = let m = stepped-turn app before (Some e) t q in subst (λ t. P t.state) m.1 (h before (Some e) m.0)

module _ (app : App) where
  state-drawn : (s : State) → Reached app s → s.rendering ≡ draw app s.store
  state-drawn = after-turns app (λ s. s.rendering ≡ draw app s.store) (λ s e q. sym (draw_settled app (laid app s e)))

  pub state_is_rendered : (s : State) → Reached app s → render app s.store ≡ Some s.rendering
  state_is_rendered = after-turns app (λ s. render app s.store ≡ Some s.rendering)
      (λ s e q. ap (λ f. if fits f then Some f else None) (draw_settled app (laid app s e)) ∙ ap (λ b. if b then Some (draw app (laid app s e)) else None) q)

  pub state_is_settled : (s : State) → Reached app s → settle app s.store s.rendering ≡ s.store
  state_is_settled = after-turns app (λ s. settle app s.store s.rendering ≡ s.store) (λ s e q. settle_settled app (laid app s e) (draw app (laid app s e)))

  pub state_holds_no_action : (s : State) → Reached app s → HoldsNoAction s.store
  state_holds_no_action = by-turns app (λ s. HoldsNoAction s.store) tt (λ s e q h. turn_plain NoPath app s e h)

  pub state_numbers_are_valid : (s : State) → Reached app s → ValidNumbers s.numbers
  state_numbers_are_valid = by-turns app (λ s. ValidNumbers s.numbers) ((λ i n q. absurd (none_some n q)), (λ i j n q r. absurd (none_some n q))) (λ s e q v. numbers_stay_valid s.numbers (draw app (laid app s e)) v)

-- Where sources stand, and how calls end, over cells without actions

no-owners : (app : App) (σ : Store) → HoldsNoAction σ → (P : Path → Type 0) (i : Path) (x : Text) → Owners P (cell_value app σ i x)
no-owners app σ h P i x = owners_more NoPath P (λ j n. absurd n) (cell_value app σ i x) (cell_plain NoPath app σ h i x)

pub sources_stand_above : (app : App) (σ : Store) → HoldsNoAction σ → AllReadAbove (draw app σ)
sources_stand_above app σ h = draw_good app σ (no-owners app σ h)

pub calls_end : (app : App) (σ τ : Store) → HoldsNoAction τ → (v : V) (given : List V) (sofar : Sets) (n : ℕ) → owner_nesting v ≤ n → run_at n app σ (draw app τ) v given sofar ≡ run app σ (draw app τ) v given sofar
calls_end app σ τ h v given sofar n q = run_enough app σ (draw app τ) (sources_stand_above app τ h) v given sofar n q

pub state_reads_above : (app : App) (s : State) → Reached app s → AllReadAbove s.rendering
state_reads_above app s r = subst AllReadAbove (sym (state-drawn app s r)) (sources_stand_above app s.store (state_holds_no_action app s r))

pub turn_changes_only_stale : (app : App) (s : State) (e : Event) (t : Turn) → Reached app s → step app s (Some e) ≡ Some t → (q r : Position) → Among q (positions s.rendering) → Among r (positions t.state.rendering) → q.path ≡ r.path
    → stale s.rendering t.state.rendering (applied app s (Some e)).sets q.path ≡ false → q.pairs ≡ r.pairs
turn_changes_only_stale app s e t reached k q r =
    let sets = (applied app s (Some e)).sets in
    let m = stepped-turn app s (Some e) t k in
    let Kept : Forest → Forest → Type 0 = λ f g. Among q (positions f) → Among r (positions g) → q.path ≡ r.path → stale f g sets q.path ≡ false → q.pairs ≡ r.pairs in
    subst (λ f. Kept f t.state.rendering) (sym (state-drawn app s reached)) (subst (λ t. Kept (draw app s.store) t.state.rendering) m.1 (only_stale_changes app s.store sets q r))

-- The turns of a session

module _ (app : App) where
  reached-on : (s : State) (o : Option Turn) (es : List Event) → ((t : Turn) → o ≡ Some t → Reached app t.state) → ((s : State) → Reached app s → (t : Turn) → Among t (session_from app es s).turns → Reached app t.state)
      → (t : Turn) → Among t (go_on s o (session_from app es)).turns → Reached app t.state
  reached-on s None es h k t m = absurd m
  reached-on s (Some u) es h k t (inl q) = subst (λ t. Reached app t.state) (sym q) (h u refl)
  reached-on s (Some u) es h k t (inr m) = k u.state (h u refl) t m

  reached-from : (es : List Event) (s : State) → Reached app s → (t : Turn) → Among t (session_from app es s).turns → Reached app t.state
  reached-from [] s r t m = absurd m
  reached-from (e ∷ es) s r t m = reached-on s (step app s (Some e)) es (λ u q. stepped e r q) (λ s r t m. reached-from es s r t m) t m

  pub turns_are_reached : (es : List Event) (t : Turn) → Among t (session app es).turns → Reached app t.state
  turns_are_reached es t m = reached-on first_state (step app first_state None) es (λ u q. started q) (reached-from es) t m

  -- the number n is that of i, or of no path
  abbrev Given : Path → ℕ → Numbers → Type 0
  Given i n ns = ValidNumbers ns × (n < ns.next) × ((j : Path) → at_path j ns.of ≡ Some n → i ≡ j)

  given-step : (i : Path) (n : ℕ) (s : State) (e : Option Event) (t : Turn) → step app s e ≡ Some t → Given i n s.numbers → Given i n t.state.numbers
  given-step i n s e t q g =
      let m = stepped-turn app s e t q in let f = draw app (laid app s e) in
      let grown : s.numbers.next ≤ (number s.numbers f).next = next_grows s.numbers f in let below : n < s.numbers.next = g.1 in
      subst (λ t. Given i n t.state.numbers) m.1 (numbers_stay_valid s.numbers f g.0, omega arith, number_again s.numbers f i n g.1 g.2)

  given-on : (i : Path) (n : ℕ) (s : State) (o : Option Turn) (es : List Event) → ((t : Turn) → o ≡ Some t → Given i n t.state.numbers) → ((s : State) → Given i n s.numbers → (t : Turn) → Among t (session_from app es s).turns → Given i n t.state.numbers)
      → (t : Turn) → Among t (go_on s o (session_from app es)).turns → Given i n t.state.numbers
  given-on i n s None es h k t m = absurd m
  given-on i n s (Some u) es h k t (inl q) = subst (λ t. Given i n t.state.numbers) (sym q) (h u refl)
  given-on i n s (Some u) es h k t (inr m) = k u.state (h u refl) t m

  given-from : (i : Path) (n : ℕ) (es : List Event) (s : State) → Given i n s.numbers → (t : Turn) → Among t (session_from app es s).turns → Given i n t.state.numbers
  given-from i n [] s g t m = absurd m
  given-from i n (e ∷ es) s g t m = given-on i n s (step app s (Some e)) es (λ u q. given-step i n s (Some e) u q g) (λ s g t m. given-from i n es s g t m) t m

  again-on : (s : State) (o : Option Turn) (es : List Event) → ((t : Turn) → o ≡ Some t → Reached app t.state)
      → ((s : State) → Reached app s → (t u : Turn) → Before t u (session_from app es s).turns → (i j : Path) (n : ℕ) → at_path i t.state.numbers.of ≡ Some n → at_path j u.state.numbers.of ≡ Some n → i ≡ j)
      → (t u : Turn) → Before t u (go_on s o (session_from app es)).turns → (i j : Path) (n : ℕ) → at_path i t.state.numbers.of ≡ Some n → at_path j u.state.numbers.of ≡ Some n → i ≡ j
  again-on s None es h k t u m = absurd m
  again-on s (Some x) es h k t u (inl m) = λ i j n q r.
      let v = state_numbers_are_valid app x.state (h x refl) in
      let q : at_path i x.state.numbers.of ≡ Some n = subst (λ t. at_path i t.state.numbers.of ≡ Some n) m.0 q in
      (given-from i n es x.state (v, v.0 i n q, λ j k. v.1 i j n q k) u m.1).2 j r
  again-on s (Some x) es h k t u (inr m) = k x.state (h x refl) t u m

  again-from : (es : List Event) (s : State) → Reached app s → (t u : Turn) → Before t u (session_from app es s).turns → (i j : Path) (n : ℕ) → at_path i t.state.numbers.of ≡ Some n → at_path j u.state.numbers.of ≡ Some n → i ≡ j
  again-from [] s r t u m = absurd m
  again-from (e ∷ es) s r t u m = again-on s (step app s (Some e)) es (λ t q. stepped e r q) (λ s r t u m. again-from es s r t u m) t u m

  pub numbers_never_come_again : (es : List Event) (t u : Turn) → Before t u (session app es).turns → (i j : Path) (n : ℕ) → at_path i t.state.numbers.of ≡ Some n → at_path j u.state.numbers.of ≡ Some n → i ≡ j
  numbers_never_come_again es t u m = again-on first_state (step app first_state None) es (λ t q. started q) (again-from es) t u m
