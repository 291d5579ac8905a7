-- In each turn of a session an update by numbers may pass over what is fresh.
use Rattle.std.proofs.Common.{◌≡◌, ℕ, zero, suc, max, List, [], Bool, true, false, true≢false, Some, None, refl, sym, ◌∙◌, ap, ap₂, subst, arith}
use Rattle.std.specs.Prelude.{if◌then◌else◌, not, length, ◌||◌, nat_lt}
use Rattle.gl_meaning.specs.App.{App}
use Rattle.gl_meaning.specs.Scope.{scope, nothing_passed}
use Rattle.gl_meaning.specs.Eval.{Store, class_at}
use Rattle.gl_meaning.specs.Actions.{lay}
use Rattle.gl_meaning.specs.Laws.{Reached}
use Rattle.gl_meaning.specs.Render.{draw, fits}
use Rattle.gl_meaning.specs.Session as session
use Rattle.gl_meaning.specs.Session.{applied}
use Rattle.gl_meaning.proofs.Pieces.{none_some}
use Rattle.gl_meaning.proofs.Sessions.{state_is_rendered}
use Rattle.gl_plain.specs.Ids.{Id, occurs}
use Rattle.gl_plain.specs.State.{Inst, Names, names_by, mscope, mnothing, pair_of, State}
use Rattle.gl_plain.specs.Naming.{Naming, by_number}
use Rattle.gl_plain.specs.Live.{is_deep, times, times_in}
use Rattle.gl_plain.specs.Turns.{begin}
use Rattle.gl_plain.specs.Stands.{top, NamesBelow, CellsStand, Owned}
use Rattle.gl_plain.specs.Machine.{no_place, RootStands, OnlyTouched}
use Rattle.gl_plain.proofs.Moves.{left_owned, right_owned}
use Rattle.gl_plain.proofs.Binding.{in_top}
use Rattle.gl_plain.proofs.Cells.{cells_at}
use Rattle.gl_plain.proofs.Rereads.{Cold}
use Rattle.gl_plain.proofs.Renewing.{Ready, made_old}
use Rattle.gl_plain.proofs.Roots.{deep_is_deep}
use Rattle.gl_plain.proofs.Shown.{scope_itself}
use Rattle.gl_kept.specs.Around.{There, with_made}
use Rattle.gl_naming.specs.Renamed.{state_with}
use Rattle.gl_turns.specs.Evaluated.{is_named}
use Rattle.gl_machine.specs.Code.{Code, component_code, live_of, lives_of}
use Rattle.gl_machine.specs.Env.{Env}
use Rattle.gl_machine.specs.Nesting.{Nests}
use Rattle.gl_machine.specs.Sight.{not_passed}
use Rattle.gl_machine.specs.RenewCode.{Runs}
use Rattle.gl_machine.specs.Root.{PlacedRoot, renew_root_code_as}
use Rattle.gl_machine.specs.Step.{run_for_as}
use Rattle.gl_machine.proofs.Pages.{words_append}
use Rattle.gl_machine.proofs.Nesting.{standing_nests}
use Rattle.gl_follows.specs.Sets.{set_all_by, AreThere, put_all}
use Rattle.gl_follows.proofs.Keeping.{sets_keep_by}
use Rattle.gl_follows.proofs.Owners.{puts_by}
use Rattle.gl_follows.proofs.Plain.{sets_plain}
use Rattle.gl_follows.proofs.Setting.{sets_by}
use Rattle.gl_follows.proofs.Turning.{next_paths}
use Rattle.gl_guards.specs.Guarded.{any_stale, entered_root_code_as}
use Rattle.gl_guards.specs.Along.{few, enters_few, enters_over, whole, enters_whole}
use Rattle.gl_guards.specs.Settled.{PassesFresh, MayPass, AtRoot}
use Rattle.gl_guards.specs.Laws.{TurnMayPass, TurnIsRenew, PutsAreEntered, PutsAreRenew, PutsGoAlong}
use Rattle.gl_guards.proofs.Told.{Seen, seen_named}
use Rattle.gl_guards.proofs.Standing.{codes_settled, RunsApart, codes_own, runs_apart}
use Rattle.gl_guards.proofs.Joined.{namings_apart, entered_is_renew_root, guarded_is_renew_root}
use Rattle.gl_guards.proofs.Same.{fresh_alone}

-- the root's scope
root_ready : (app : App) (σ τ : Store) (st : State) (i : Inst) (made : List Id) (args : Names) → Owned st (λ q. occurs q made) → i.path ≡ [] → args ≡ []
    → CellsStand app σ τ st.look i made → OnlyTouched app σ τ st → Ready app σ τ (max 0 (top made)) st (mscope i args [] mnothing) no_place no_place
root_ready app σ τ st i made args o path none held cells = record {
  low = made_old app σ τ 0 st made (omega arith) o;
  scope = record {
    low = ((λ x e. let h = in_top _ made (held x e).0 in omega (arith, h)), subst (λ y. NamesBelow (max 0 (top made)) y) (sym none) tt, tt, tt);
    is = ap₂ (λ x y. scope x (names_by (pair_of st.look) y) [] nothing_passed) path none;
    cells = (cells_at app σ τ st.look i made held, tt);
  };
  keeps = scope_itself (Cold st) no_place;
  cells = cells;
}

-- the page
page_may : (naming : Naming) (env : Env) (run : Runs) → RunsApart naming env run → (σ τ : Store) (st st' : State) → Seen naming env.app σ τ st st' → (k : Code) (m : ℕ) → PlacedRoot env k → Owned st' (λ q. times q (live_of k))
    → RootStands env.app σ τ st'.look m (live_of k) → OnlyTouched env.app σ τ st' → There env.app st.look (λ q. 0) (live_of k) → Nests (live_of k) m → MayPass naming run st (λ q. 0) m [] k × AtRoot k
page_may naming env run apart σ τ st st' sees (component_code i made gm args None cs) (suc m) (q, placed) o h only th nests =
    let none : Id → ℕ = λ x. 0 in
    let inside = with_made made none in
    let oa = left_owned st' (λ q. occurs q made) (λ q. times_in q (lives_of cs)) o in
    let ob = right_owned st' (λ q. occurs q made) (λ q. times_in q (lives_of cs)) o in
    let ready = root_ready env.app σ τ st' i made args oa h.1 h.2 h.3 only in (
      record {
        room = record {
          once = λ q. let j = o.once q in omega (arith, j);
          old = λ q le. let e = sees.next q in let j = o.old q (omega (arith, e, le)) in omega (arith, j);
          closed = λ r w. absurd (omega (arith, w));
        };
        owns = codes_own naming env run apart env.app st.look q (mscope i args [] mnothing) not_passed [] 0 (class_at env.app []).template cs inside placed th.3;
        settled = (
          th.0,
          subst (λ p. Rattle.gl_guards.specs.Settled.SettledIn naming st inside p 0 cs) (sym h.1)
              (codes_settled naming env σ τ st st' sees m (max 0 (top made)) q no_place no_place (mscope i args [] mnothing) not_passed [] 0 (class_at env.app []).template cs inside placed h.5 ready ob th.3),
        );
        nests = nests;
      },
      h.1,
    )
page_may naming env run apart σ τ st st' sees (component_code i made gm args None cs) zero placed o h only th nests = absurd nests
page_may naming env run apart σ τ st st' sees _ m placed o h only th nests = absurd placed

-- where a reached state is rendered, no component stands too deep
reached_fits : (app : App) (s : session.State) → Reached app s → fits (draw app s.store) ≡ true
reached_fits app s r = by (fits (draw app s.store)) (state_is_rendered app s r) where
  by : (b : Bool) → (if b then Some (draw app s.store) else None) ≡ Some s.rendering → b ≡ true
  by true e = refl
  by false e = absurd (none_some s.rendering e)

not_deep : (b : Bool) → not b ≡ true → b ≡ false
not_deep false e = refl
not_deep true e = absurd (true≢false (sym e))

pub turn_may_pass : TurnMayPass
turn_may_pass env lowered differ s e reached k st placed follows there n =
    let app = env.app in
    let l = live_of k in
    let sets = (applied app s (Some e)).sets in
    let σ = s.store in
    let τ = lay sets σ in
    let now = set_all_by app l sets (begin st) in
    let set = sets_by app σ sets st l follows.named follows.given (sets_plain app s e) there in
    let only = (next_paths app differ s e reached st l follows there).only in
    let stands = set.named.stands (is_named sets) in
    let here = follows.named.stands (λ x. false) in
    let kept = sets_keep_by app σ σ follows.named.owner follows.named.source (λ x. false) sets st l here follows.kept in
    let deep : is_deep l ≡ false = not_deep (is_deep l) (sym (deep_is_deep app σ (state_with follows.named.owner follows.named.source (λ x. false) st) l here) ∙ reached_fits app s reached) in
    let st' = state_with set.named.owner set.named.source (is_named sets) now in
    let run = run_for_as by_number env [] n in
    page_may by_number env run (runs_apart env [] run (words_append by_number env [] lowered n)) σ τ now st'
    (seen_named set.named.owner set.named.source set.named.back set.named.once set.named.undoes (is_named sets) now (λ r lt. sym (set.just r)) set.given.rows.1 app σ τ) k app.limit placed stands.owned stands.stands only kept.there
    (standing_nests app σ τ st' l stands deep)

pub turn_is_renew : TurnIsRenew
turn_is_renew env lowered differ s e reached k st placed follows there n =
    let m = turn_may_pass env lowered differ s e reached k st placed follows there n in
    guarded_is_renew_root by_number namings_apart.1 (run_for_as by_number env [] n) (λ q. 0) env.app.limit k (set_all_by env.app (live_of k) (applied env.app s (Some e)).sets (begin st)) m.0 m.1

pub puts_are_entered : PutsAreEntered
puts_are_entered first passes enters safe once env lowered differ s e reached k st placed follows xs own same n =
    let l = live_of k in
    let run = run_for_as by_number env [] n in
    let y = puts_by env.app s st l follows xs own in
    let there : AreThere env.app l (applied env.app s (Some e)).sets = subst (AreThere env.app l) (sym same) y.0 in
    let put : set_all_by env.app l (applied env.app s (Some e)).sets (begin st) ≡ put_all xs (begin st) = ap (λ hs. set_all_by env.app l hs (begin st)) same ∙ y.1 in
    let m = turn_may_pass env lowered differ s e reached k st placed follows there n in
    subst (λ now. entered_root_code_as by_number first enters once env.app.limit run k now ≡ renew_root_code_as by_number env.app.limit run k now) put
    (entered_is_renew_root by_number namings_apart.1 run first passes enters safe once (λ q. 0) env.app.limit k (set_all_by env.app l (applied env.app s (Some e)).sets (begin st)) m.0 m.1)

pub puts_are_renew : PutsAreRenew
puts_are_renew env lowered differ s e reached k st placed follows xs own same n =
    puts_are_entered any_stale fresh_alone any_stale fresh_alone true env lowered differ s e reached k st placed follows xs own same n

-- a question that enters more regions passes over fresh ones alone
pub over_enters : (most : ℕ) → PassesFresh (enters_over most)
over_enters most st rs e = by (nat_lt most (length rs)) e where
  by : (b : Bool) → (b || any_stale st rs) ≡ false → any_stale st rs ≡ false
  by true e = absurd (true≢false e)
  by false e = e

pub puts_go_along : PutsGoAlong
puts_go_along env lowered differ s e reached k st placed follows xs own same n =
    puts_are_entered enters_whole (over_enters whole) enters_few (over_enters few) false env lowered differ s e reached k st placed follows xs own same n
