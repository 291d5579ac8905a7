-- A page that is appended, and one that is updated, stand in the session's states.
use Rattle.std.proofs.Common.{◌≡◌, ℕ, ◌+◌, ◌-◌, codes, List, [], ◌++◌, flat_map, length, Option, refl, sym, ap, ◌∙◌, subst, append_assoc, arith}
use Rattle.std.proofs.lemmas.List.{length-map}
use Rattle.gl_base.specs.Texts.{Text}
use Rattle.gl_ast.specs.Template.{Body}
use Rattle.gl_meaning.specs.App as m
use Rattle.gl_meaning.specs.Print.{head_line, missing_lines}
use Rattle.gl_meaning.specs.Session as session
use Rattle.gl_meaning.specs.Laws.{Reached}
use Rattle.gl_meaning.specs.Session.{first_state, applied}
use Rattle.gl_meaning.specs.View.{manifest_view}
use Rattle.gl_opc.specs.declared.app.App.{App}
use Rattle.gl_arena.specs.Id.{Id}
use Rattle.gl_nodes.specs.Tree.{node_at}
use Rattle.gl_nodes.specs.Flat.{IsFlat}
use Rattle.gl_print.specs.Lines.{lines}
use Rattle.gl_mods.specs.Mods.{IsSound}
use Rattle.gl_plain.specs.Ids.{a_node, node as node_id}
use Rattle.gl_plain.specs.State.{State}
use Rattle.gl_plain.specs.Live.{Live}
use Rattle.gl_machine.specs.Code.{live_of}
use Rattle.gl_machine.specs.Shape.{nest}
use Rattle.gl_vm.specs.View.{Tables, state_of}
use Rattle.gl_vm.specs.Steps.{Follows}
use Rattle.gl_follows.specs.Turns.{FollowsBy}
use Rattle.gl_code.specs.CodeView.{seen_code}
use Rattle.gl_code.specs.Hung.{nest_of}
use Rattle.gl_code.specs.Tables.{env_of, tables_of}
use Rattle.gl_code.specs.declared.page.Page.{Page}
use Rattle.gl_texts.specs.Lines.{nest_lines, shown_lines, installed_lines}
use Rattle.gl_texts.specs.Laws.{text_of_turn}
use Rattle.gl_session.specs.Standing.{Goes, app_with}
use Rattle.gl_session.specs.Turn.{work_view}
use Rattle.gl_session.specs.declared.turn.Turn as told
use Rattle.gl_session.specs.declared.turn.Work as code
use Rattle.gl_session.specs.Telling.{committed}
use Rattle.gl_session.specs.Writing.{told_id}
use Rattle.gl_session.proofs.Lines.{lines_are, own_in, told_all}
use Rattle.gl_session.proofs.Words.{Made}

-- what follows a state doesn't depend on the lists of a turn
pub still_follows : (app : m.App) (s : session.State) (st : State) (l : Live) → FollowsBy app s st l → FollowsBy app s (record st { installs = []; updates = [] }) l
still_follows app s st l x = record {
  named = record {
    owner = x.named.owner;
    source = x.named.source;
    back = x.named.back;
    once = x.named.once;
    undoes = x.named.undoes;
    owners = x.named.owners;
    sources = x.named.sources;
    stands = λ touched. let y = x.named.stands touched in record { owned = record { once = y.owned.once; old = y.owned.old }; stands = y.stands };
  };
  given = record { sits = x.given.sits; rows = x.given.rows; owners = x.given.owners; sources = x.given.sources };
  rendering = x.rendering;
  numbers = x.numbers;
  kept = record { there = x.kept.there; nothing = x.kept.nothing };
}

pieces : (h x l d z : Text) → (h ++ (x ++ l)) ++ (d ++ z) ≡ h ++ (x ++ (l ++ (d ++ z)))
pieces h x l d z = append_assoc h (x ++ l) (d ++ z) ∙ ap (λ y. h ++ y) (append_assoc x l (d ++ z))

-- a work is what was evaluated, made since this was the number of the next node, and moved
pub record Did (page : Page) (first count : ℕ) (work : code.Work) : Type 0 where
  pub evaluated : work.evaluated ≡ length page.vm.refs.evaluated
  pub made : work.made ≡ page.vm.tree.nodes.made - first
  pub moved : work.moved ≡ count

module _ (a : App) (templates : List Body) (page : Page) (s : session.State) (e : Option m.Event) (destroyed : Text) (state : State) where
  names : Tables
  names = tables_of (manifest_view a.manifest)

  -- the text that the code writes, in its pieces
  abbrev pub written : Text → Text → Text
  written head missing =
      (head ++ (missing ++ lines (node_at page.vm.tree) (λ i. i.1) [] page.vm.tree.forest))
      ++ (destroyed ++ (flat_map (told_id (codes "install ") (tables_of (manifest_view a.manifest)) page.vm) page.vm.mods.installs ++ flat_map (told_id (codes "update ") (tables_of (manifest_view a.manifest)) page.vm) page.vm.mods.updates))

  module _ (moved : ℕ) (x : Made (env_of a templates) s e destroyed moved (seen_code (tables_of (manifest_view a.manifest)) page.code) state) (y : Follows (tables_of (manifest_view a.manifest)) state page.vm)
      (nested : nest_of page.vm.tree.forest ≡ nest (live_of (seen_code (tables_of (manifest_view a.manifest)) page.code))) where
    live : Live
    live = live_of (seen_code (tables_of (manifest_view a.manifest)) page.code)

    kept : State
    kept = state_of (tables_of (manifest_view a.manifest)) page.vm state.touched

    text_is : IsFlat page.vm.tree → IsSound page.vm.mods → written (head_line s.turn e) (missing_lines (applied (app_with a templates) s e).missing) ≡ x.turn.text
    text_is flat sound =
        let shown : lines (node_at page.vm.tree) (λ i. i.1) [] page.vm.tree.forest ≡ shown_lines (state_of (tables_of (manifest_view a.manifest)) page.vm state.touched) (live_of (seen_code (tables_of (manifest_view a.manifest)) page.code)) =
        lines_are page.vm.tree (λ k. (state_of (tables_of (manifest_view a.manifest)) page.vm state.touched).look (node_id k)) (λ k. refl) [] page.vm.tree.forest (own_in page.vm.tree flat)
        ∙ ap (nest_lines (λ k. (state_of (tables_of (manifest_view a.manifest)) page.vm state.touched).look (node_id k)) []) nested in
        let ins = told_all (codes "install ") (tables_of (manifest_view a.manifest)) page.vm state.touched page.vm.mods.installs (λ i lt. (sound.installs i lt).1) in
        let ups = told_all (codes "update ") (tables_of (manifest_view a.manifest)) page.vm state.touched page.vm.mods.updates (λ i lt. (sound.updates i lt).1) in
        let h = head_line s.turn e in
        let q = missing_lines (applied (app_with a templates) s e).missing in
        pieces h q (lines (node_at page.vm.tree) (λ i. i.1) [] page.vm.tree.forest) destroyed
        (flat_map (told_id (codes "install ") (tables_of (manifest_view a.manifest)) page.vm) page.vm.mods.installs ++ flat_map (told_id (codes "update ") (tables_of (manifest_view a.manifest)) page.vm) page.vm.mods.updates)
        ∙ (ap (λ z. h ++ (q ++ (z ++ (destroyed ++ (flat_map (told_id (codes "install ") (tables_of (manifest_view a.manifest)) page.vm) page.vm.mods.installs ++ flat_map (told_id (codes "update ") (tables_of (manifest_view a.manifest)) page.vm) page.vm.mods.updates))))) shown
        ∙ (ap (λ z. h ++ (q ++ (shown_lines (state_of (tables_of (manifest_view a.manifest)) page.vm state.touched) (live_of (seen_code (tables_of (manifest_view a.manifest)) page.code)) ++ (destroyed ++ (z ++ flat_map (told_id (codes "update ") (tables_of (manifest_view a.manifest)) page.vm) page.vm.mods.updates))))) ins
        ∙ (ap (λ z. h ++ (q ++ (shown_lines (state_of (tables_of (manifest_view a.manifest)) page.vm state.touched) (live_of (seen_code (tables_of (manifest_view a.manifest)) page.code)) ++ (destroyed ++ (installed_lines (state_of (tables_of (manifest_view a.manifest)) page.vm state.touched) ++ z))))) ups
        ∙ (ap (λ st. text_of_turn (app_with a templates) s e st (live_of (seen_code (tables_of (manifest_view a.manifest)) page.code)) destroyed) y.state
        ∙ x.text))))

    -- what was evaluated and made, as the page has it
    evaluated_is : length page.vm.refs.evaluated ≡ x.turn.work.evaluated
    evaluated_is = sym (length-map page.vm.refs.evaluated (λ (i : Id). i.1)) ∙ (ap (λ (st : State). length st.evaluated) y.state ∙ x.by.evaluated)

    made_is : page.vm.tree.nodes.made ≡ s.numbers.next + x.turn.work.made
    made_is = ap (λ (st : State). st.next a_node) y.state ∙ x.by.made

    work_is : (work : code.Work) → Did page s.numbers.next moved work → work_view work ≡ x.turn.work
    work_is work d =
        let all = d.made in
        let here = made_is in
        let made : work.made ≡ x.turn.work.made = omega (arith, all, here) in
        let evaluated : work.evaluated ≡ x.turn.work.evaluated = d.evaluated ∙ evaluated_is in
        let moves : work.moved ≡ x.turn.work.moved = d.moved ∙ sym x.moves in
        λ i. record { evaluated = evaluated i; made = made i; moved = moves i }

    pub goes : IsFlat page.vm.tree → IsSound page.vm.mods → Reached (app_with a templates) x.turn.state → (head missing : Text) (made : told.Turn) → head ≡ head_line s.turn e → missing ≡ missing_lines (applied (app_with a templates) s e).missing
        → made.text ≡ written head missing → Did page s.numbers.next moved made.work → Goes a templates s e (record page { vm = committed page.vm }) made
    goes flat sound reached head missing made h q w d = record {
      turn = x.turn;
      is = x.is;
      told = record { text = w ∙ (ap (λ z. written z missing) h ∙ (ap (written (head_line s.turn e)) q ∙ text_is flat sound)); work = work_is made.work d };
      stands = record {
        touched = state.touched;
        agrees = y.agrees;
        follows =
            still_follows (app_with a templates) x.turn.state (state_of (tables_of (manifest_view a.manifest)) page.vm state.touched) (live_of (seen_code (tables_of (manifest_view a.manifest)) page.code))
            (subst (λ st. FollowsBy (app_with a templates) x.turn.state st (live_of (seen_code (tables_of (manifest_view a.manifest)) page.code))) (sym y.state) x.by.follows);
        placed = x.placed;
        reached = reached;
        nested = nested;
      };
    }
