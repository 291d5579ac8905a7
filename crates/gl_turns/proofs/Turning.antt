-- The turns of a session.
use Rattle.std.proofs.Common.{◌≡◌, ℕ, suc, ◌+◌, List, [], ◌∷◌, map, Bool, true, false, Option, Some, None, refl, sym, ap, ◌∙◌, subst, arith}
use Rattle.std.specs.Prelude.{filter, filter_map, length, if◌then◌else◌, not, ◌||◌}
use Rattle.std.specs.List.{list_any}
use Rattle.gl_meaning.specs.App.{App, Event}
use Rattle.gl_meaning.specs.Path.{Path, path_eq, at_path}
use Rattle.gl_meaning.specs.Eval.{Store}
use Rattle.gl_meaning.specs.Laws.{Reached}
use Rattle.gl_meaning.specs.Render.{Forest, draw, render, fits}
use Rattle.gl_meaning.specs.Changes.{Position, positions, Numbers, number_from, number, nodes, Sets}
use Rattle.gl_meaning.specs.Numbering.{with_number, number_one}
use Rattle.gl_meaning.specs.Actions.{lay}
use Rattle.gl_meaning.specs.Session as session
use Rattle.gl_meaning.specs.Session.{Turn, turn_of, first_state, applied, step}
use Rattle.gl_meaning.specs.Work.{work}
use Rattle.gl_meaning.proofs.Pieces.{some_same, none_some}
use Rattle.gl_meaning.proofs.Sessions.{state_is_rendered, state_holds_no_action}
use Rattle.gl_plain.specs.Ids.{a_node}
use Rattle.gl_plain.specs.State.{State, Inst}
use Rattle.gl_plain.specs.Live.{Live}
use Rattle.gl_plain.specs.Turns.{blank, begin}
use Rattle.gl_plain.specs.Grow.{grow_app}
use Rattle.gl_plain.specs.Renew.{renew_app}
use Rattle.gl_plain.proofs.Roots.{appended_stands, updated_stands, standing_shows}
use Rattle.gl_plain.proofs.CountGrows.{appended_evaluates}
use Rattle.gl_turns.specs.Places.{position_in, places}
use Rattle.gl_turns.specs.Numbers.{numbers_of, one_more}
use Rattle.gl_turns.specs.Sets.{set_at, set_one, set_all}
use Rattle.gl_turns.specs.Laws.{Follows, FirstTurn, NextTurn}
use Rattle.gl_turns.proofs.Listed.{positions_listed}
use Rattle.gl_turns.proofs.Numbered.{tree_agrees, appended_numbers, updated_numbers, updated_made_count, next_count}
use Rattle.gl_turns.proofs.Evaluated.{evaluated_count, count_kept, count_read, length_mapped}
use Rattle.gl_turns.proofs.Resettled.{settled_stands}
use Rattle.gl_turns.proofs.Setting.{sets_are_laid, set_next}

-- Numbers with one more

more_at : (p : Path) (xs : List (Path × ℕ)) (f : Option ℕ → Option ℕ) → (f None ≡ None) → ((n : ℕ) → f (Some n) ≡ Some (suc n)) → at_path p (map (λ z. (z.0, suc z.1)) xs) ≡ f (at_path p xs)
more_at p [] f e g = sym e
more_at p (x ∷ xs) f e g = by (path_eq p x.0) (more_at p xs f e g) where
  by : (b : Bool) → at_path p (map (λ z. (z.0, suc z.1)) xs) ≡ f (at_path p xs) → (if b then Some (suc x.1) else at_path p (map (λ z. (z.0, suc z.1)) xs)) ≡ f (if b then Some x.1 else at_path p xs)
  by true h = sym (g x.1)
  by false h = h

abbrev more : Option ℕ → Option ℕ
more None = None
more (Some n) = Some (suc n)

number_more : (old : List (Path × ℕ)) (n : ℕ) (ps : List Path) → number_from (map (λ z. (z.0, suc z.1)) old) (suc n) ps ≡ one_more (number_from old n ps)
number_more old n [] = refl
number_more old n (p ∷ ps) = ap (λ o. number_one o (suc n) p (λ k. number_from (map (λ z. (z.0, suc z.1)) old) k ps)) (more_at p old more refl (λ k. refl)) ∙ by (at_path p old) (λ k. number_more old k ps) where
  by : (o : Option ℕ) → ((k : ℕ) → number_from (map (λ z. (z.0, suc z.1)) old) (suc k) ps ≡ one_more (number_from old k ps))
      → number_one (more o) (suc n) p (λ k. number_from (map (λ z. (z.0, suc z.1)) old) k ps) ≡ one_more (number_one o n p (λ k. number_from old k ps))
  by None h = ap (λ (y : Numbers). with_number p (suc n) y) (h (suc n))
  by (Some k) h = ap (λ (y : Numbers). with_number p (suc k) y) (h n)

-- Sets

set_evaluated : (o : Option Inst) (k : Rattle.gl_meaning.specs.Eval.Member) (h : Rattle.gl_meaning.specs.Eval.Held) (st : State) → (set_at o k h st).evaluated ≡ st.evaluated
set_evaluated None k h st = refl
set_evaluated (Some i) Rattle.gl_meaning.specs.Eval.field_member h st = refl
set_evaluated (Some i) (Rattle.gl_meaning.specs.Eval.getter_member g) h st = refl
set_evaluated (Some i) Rattle.gl_meaning.specs.Eval.action_member h st = refl

sets_evaluated : (app : App) (l : Live) (sets : Sets) (st : State) → (set_all app l sets st).evaluated ≡ st.evaluated
sets_evaluated app l [] st = refl
sets_evaluated app l (h ∷ hs) st = sets_evaluated app l hs (set_one app l h st) ∙ set_evaluated _ _ h st

sets_next : (app : App) (l : Live) (sets : Sets) (st : State) → (set_all app l sets st).next ≡ st.next
sets_next app l [] st = refl
sets_next app l (h ∷ hs) st = sets_next app l hs (set_one app l h st) ∙ set_next _ _ h st

-- Turns

abbrev pub turn_after : App → session.State → Option Event → Turn
turn_after app s e = let a = applied app s e in turn_of app s e a (draw app (lay a.sets s.store))

pub step_is : (app : App) (s : session.State) (e : Option Event) (t : Turn) → step app s e ≡ Some t → turn_after app s e ≡ t
step_is app s e t h = by (fits (draw app (lay (applied app s e).sets s.store))) h where
  by : (b : Bool) → (if b then Some (turn_after app s e) else None) ≡ Some t → turn_after app s e ≡ t
  by true g = some_same (turn_after app s e) t g
  by false g = absurd (none_some t g)

pub rendered : (app : App) (s : session.State) → Reached app s → draw app s.store ≡ s.rendering
rendered app s r = by (fits (draw app s.store)) (state_is_rendered app s r) where
  by : (b : Bool) → (if b then Some (draw app s.store) else None) ≡ Some s.rendering → draw app s.store ≡ s.rendering
  by true g = some_same (draw app s.store) s.rendering g
  by false g = absurd (none_some s.rendering g)

-- where nothing was there before, each position is new
all_new : (qs : List Position) (f : Forest) (sets : Sets) → length qs ≡ length (filter (λ q. not (list_any (λ (o : Position). path_eq q.path o.path) []) || Rattle.gl_meaning.specs.Changes.stale Rattle.gl_meaning.specs.Render.no_pieces f sets q.path) qs)
all_new [] f sets = refl
all_new (q ∷ qs) f sets = ap suc (all_new qs f sets)

all_pass : {A : Type 0} (xs : List A) → filter (λ x. true) xs ≡ xs
all_pass [] = refl
all_pass (x ∷ xs) = ap (λ ys. x ∷ ys) (all_pass xs)

pub first_turn : FirstTurn
first_turn app t h = subst (λ (u : Turn). let r = grow_app app [] blank in Follows app u.state r.1 r.0 × (length r.1.evaluated ≡ u.work.evaluated) × (r.1.next a_node ≡ u.work.made)) (step_is app first_state None t h)
    (let r = grow_app app [] blank in
    let s = appended_stands app [] blank in
    let ns = appended_numbers app [] blank in
    let f = draw app [] in
    let a = ap length (appended_evaluates app [] blank) in
    let b = ap length (sym (positions_listed [] r.0)) in
    let d = length_mapped (λ (q : Path × ℕ). q.1) (filter_map position_in (places [] r.0)) in
    let e = count_kept r.1.look (λ p. true) (filter_map position_in (places [] r.0)) in
    let e' = ap length (all_pass (filter_map position_in (places [] r.0))) in
    let g = (tree_agrees app [] [] r.1 r.0 s).0.positions (λ p k. 1) in
    let i = count_read (λ p. true) (positions f) in
    let i' = ap length (all_pass (positions f)) in
    let j = all_new (positions f) f [] in (
      record {
        stands = settled_stands app [] r.1 r.0 s;
        rendering = standing_shows app [] r.1 r.0 s;
        numbers = number_more [] 0 (nodes f) ∙ ap one_more (sym ns);
      },
      omega (arith, a, b, d, e, e', g, i, i', j),
      (let x = ap (λ (y : Numbers). y.next) ns ∙ next_count [] [] refl 0 (nodes f) in omega (arith, x)),
    ))

pub next_turn : NextTurn
next_turn app s e t st l reached h follows = subst (λ (u : Turn). Goal u) (step_is app s (Some e) t h) done where
  Goal : Turn → Type 0
  Goal u =
      let sets = (applied app s (Some e)).sets in let r = renew_app app (lay sets s.store) l (set_all app l sets (begin st)) in
      Follows app u.state r.1 r.0 × (length r.1.evaluated ≡ u.work.evaluated) × (r.1.next a_node ≡ st.next a_node + u.work.made)

  done : Goal (turn_after app s (Some e))
  done =
      let sets = (applied app s (Some e)).sets in
      let τ = lay sets s.store in
      let st' = set_all app l sets (begin st) in
      let r = renew_app app τ l st' in
      let laid = sets_are_laid app s.store sets st l follows.stands in
      let now = updated_stands app s.store τ st' l laid.0 laid.1 in
      let old = rendered app s reached in
      let next = sets_next app l sets (begin st) in
      let ns = updated_numbers app s.store τ st' l laid.0 laid.1 in
      let none = ap length (sets_evaluated app l sets (begin st)) in
      let count = evaluated_count app s.store τ sets st' l laid.0 laid.1 laid.2 (state_holds_no_action app s reached) in
      let made = updated_made_count app s.store τ sets st' l laid.0 laid.1 in
      let before : s.numbers ≡ one_more (numbers_of st' l) = follows.numbers ∙ ap (λ (f : Rattle.gl_plain.specs.Ids.Kind → ℕ). one_more (record { of = (numbers_of st l).of; next = f a_node })) (sym next) in (
        record {
          stands = settled_stands app τ r.1 r.0 now;
          rendering = standing_shows app τ r.1 r.0 now;
          numbers = ap (λ (y : Numbers). number y (draw app τ)) before ∙ (number_more (numbers_of st' l).of (numbers_of st' l).next (nodes (draw app τ)) ∙ ap one_more (sym ns));
        },
        (let a = ap (λ f. (work f (draw app τ) sets).evaluated) old in omega (arith, count, none, a)),
        (let a = ap (λ f. (work f (draw app τ) sets).made) old in let b = ap (λ (f : Rattle.gl_plain.specs.Ids.Kind → ℕ). f a_node) next in omega (arith, made, a, b)),
      )
