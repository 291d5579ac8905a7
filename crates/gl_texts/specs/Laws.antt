-- The laws of the text of a turn, read off a machine by numbers that follows a session.
use Rattle.std.specs.Prelude.{◌≡◌, ℕ, List, [], ◌++◌, map, flat_map, Option, Some, None}
use Rattle.gl_base.specs.Texts.{Text}
use Rattle.gl_meaning.specs.App.{App, Event}
use Rattle.gl_meaning.specs.Laws.{Reached}
use Rattle.gl_meaning.specs.Print.{head_line, missing_lines, tree_lines, children_first, destroy_lines, install_lines, update_lines}
use Rattle.gl_meaning.specs.Session as session
use Rattle.gl_meaning.specs.Session.{Turn, first_state, applied, step}
use Rattle.gl_plain.specs.State.{State}
use Rattle.gl_plain.specs.Live.{Live}
use Rattle.gl_plain.specs.Turns.{begin}
use Rattle.gl_plain.specs.Naming.{by_number}
use Rattle.gl_plain.specs.Renew.{renew_app_as}
use Rattle.gl_naming.specs.Exist.{FieldsDiffer}
use Rattle.gl_machine.specs.Code.{Code, live_of}
use Rattle.gl_machine.specs.Outcome.{ok}
use Rattle.gl_machine.specs.Env.{Env}
use Rattle.gl_machine.specs.Step.{run_for_as}
use Rattle.gl_machine.specs.Root.{PlacedRoot, renew_root_code_as}
use Rattle.gl_machine.specs.Laws.{AllLowered}
use Rattle.gl_follows.specs.Sets.{set_all_by, AreThere, Put, put_all, held_of, AreOwn}
use Rattle.gl_follows.specs.Turns.{FollowsBy, TurnBy}
use Rattle.gl_texts.specs.Lines.{shown_lines, installed_lines, updated_lines, destroyed_lines}

-- The nodes of a machine that follows a state of a session are written as its rendering is.
abbrev pub TreeLines : Type 0
TreeLines = (app : App) (s : session.State) (st : State) (l : Live) → FollowsBy app s st l → shown_lines st l ≡ tree_lines s.numbers [] s.rendering

-- After a turn what was installed is written as the log of the turn has it,
abbrev pub InstallLines : Type 0
InstallLines =
    (app : App) (s : session.State) (e : Option Event) (t : Turn) (st : State) (l : Live) → TurnBy app s e t st l
    → let sets = (applied app s e).sets in
    installed_lines st ≡ flat_map (install_lines app s.rendering t.state.rendering sets s.numbers t.state.numbers) (children_first t.state.rendering)

-- and so is what was updated.
abbrev pub UpdateLines : Type 0
UpdateLines =
    (app : App) (s : session.State) (e : Option Event) (t : Turn) (st : State) (l : Live) → TurnBy app s e t st l
    → let sets = (applied app s e).sets in
    updated_lines st ≡ flat_map (update_lines app s.rendering t.state.rendering sets s.numbers t.state.numbers) (children_first t.state.rendering)

-- What an update by numbers destroyed: that which stood in the tree before and isn't kept after it.
abbrev pub DestroyLines : Type 0
DestroyLines =
    (app : App) → FieldsDiffer app → (s : session.State) (e : Event) → Reached app s → (t : Turn) → step app s (Some e) ≡ Some t
    → (st : State) (l : Live) → FollowsBy app s st l
    → let sets = (applied app s (Some e)).sets in AreThere app l sets
    → let r = renew_app_as by_number app [] l (set_all_by app l sets (begin st)) in
    destroyed_lines app st l r.1 ≡ flat_map (destroy_lines app s.rendering t.state.rendering sets s.numbers t.state.numbers) (children_first s.rendering)

-- The text of a turn, from what is told of what was destroyed.
abbrev pub text_of_turn : App → session.State → Option Event → State → Live → Text → Text
text_of_turn app s e st l destroyed =
    head_line s.turn e ++ (missing_lines (applied app s e).missing ++ (shown_lines st l ++ (destroyed ++ (installed_lines st ++ updated_lines st))))

-- The first turn destroys nothing,
abbrev pub FirstText : Type 0
FirstText =
    (app : App) (t : Turn) → step app first_state None ≡ Some t → (st : State) (l : Live) → TurnBy app first_state None t st l
    → text_of_turn app first_state None st l [] ≡ t.text

-- and after each event what an update by numbers leaves gives the text of the turn.
abbrev pub NextText : Type 0
NextText =
    (app : App) → FieldsDiffer app → (s : session.State) (e : Event) → Reached app s → (t : Turn) → step app s (Some e) ≡ Some t
    → (st : State) (l : Live) → FollowsBy app s st l
    → let sets = (applied app s (Some e)).sets in AreThere app l sets
    → let r = renew_app_as by_number app [] l (set_all_by app l sets (begin st)) in text_of_turn app s (Some e) r.1 r.0 (destroyed_lines app st l r.1) ≡ t.text

-- So through the words of a loaded application, where the sets of the event are told by the numbers of their owners.
abbrev pub PutsText : Type 0
PutsText =
    (env : Env) → AllLowered env → FieldsDiffer env.app → (s : session.State) (e : Event) → Reached env.app s → (t : Turn) → step env.app s (Some e) ≡ Some t
    → (k : Code) (st : State) → PlacedRoot env k → (f : FollowsBy env.app s st (live_of k))
    → (xs : List Put) → AreOwn env.app f.named.owner (live_of k) xs → (applied env.app s (Some e)).sets ≡ map (held_of f.named.owner) xs
    → (n : ℕ) (x : Code × State) → renew_root_code_as by_number env.app.limit (run_for_as by_number env [] n) k (put_all xs (begin st)) ≡ ok x
    → text_of_turn env.app s (Some e) x.1 (live_of x.0) (destroyed_lines env.app st (live_of k) x.1) ≡ t.text
