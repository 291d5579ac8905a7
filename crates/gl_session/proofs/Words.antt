-- A turn through the words, with its text.
use Rattle.std.proofs.Common.{◌≡◌, ℕ, [], List, map, flat_map, Option, Some, None, sym, ap, ◌∙◌, subst}
use Rattle.gl_base.specs.Texts.{Text}
use Rattle.gl_meaning.specs.App.{App, Event}
use Rattle.gl_meaning.specs.Laws.{Reached}
use Rattle.gl_meaning.specs.Session as session
use Rattle.gl_meaning.specs.Session.{Turn, first_state, applied, step}
use Rattle.gl_plain.specs.State.{State}
use Rattle.gl_plain.specs.Naming.{by_number}
use Rattle.gl_plain.specs.Live.{Live, is_deep}
use Rattle.gl_plain.specs.Turns.{begin}
use Rattle.gl_plain.specs.Renew.{renew_app_as}
use Rattle.gl_naming.specs.Exist.{FieldsDiffer}
use Rattle.gl_opc.specs.Numbers.{class_number}
use Rattle.gl_machine.specs.Code.{Code, live_of}
use Rattle.gl_machine.specs.Outcome.{ok, deep}
use Rattle.gl_machine.specs.Env.{Env}
use Rattle.gl_machine.specs.Laws.{AllLowered}
use Rattle.gl_machine.specs.Placed.{Follows}
use Rattle.gl_machine.specs.Root.{PlacedRoot, append_page_as, renew_root_code_as}
use Rattle.gl_machine.specs.Step.{run_for_as}
use Rattle.gl_machine.proofs.Pages.{page_is_renewed}
use Rattle.gl_follows.specs.Sets.{set_all_by, AreThere, Put, put_all, held_of, AreOwn}
use Rattle.gl_follows.specs.Turns.{rooted, FollowsBy, TurnBy}
use Rattle.gl_follows.specs.Laws.{WordsBy}
use Rattle.gl_kept.specs.Between.{moved_between}
use Rattle.gl_works.proofs.Moves.{first_moves_none, next_moves_by}
use Rattle.gl_follows.proofs.Owners.{puts_by}
use Rattle.gl_follows.proofs.Words.{first_words, puts_words}
use Rattle.gl_machine.specs.Gone.{has_id, gone, gone_line}
use Rattle.gl_machine.specs.Rows.{page_rows, row_ids}
use Rattle.gl_texts.specs.Laws.{text_of_turn}
use Rattle.gl_texts.specs.Lines.{destroyed_lines}
use Rattle.gl_texts.proofs.Texts.{first_text, next_text}
use Rattle.gl_texts.proofs.Destroyed.{rows_tell}

-- what a turn of the machine over words makes
pub record Made (env : Env) (s : session.State) (e : Option Event) (destroyed : Text) (moved : ℕ) (code : Code) (st : State) : Type 0 where
  pub turn : Turn
  pub is : step env.app s e ≡ Some turn
  pub by : TurnBy env.app s e turn st (live_of code)
  pub moves : turn.work.moved ≡ moved
  pub placed : PlacedRoot env code
  pub text : text_of_turn env.app s e st (live_of code) destroyed ≡ turn.text

-- the lines of what stood in a tree and doesn't stand in the next one
abbrev pub ended_lines : App → State → Live → Live → Text
ended_lines app st l l' = flat_map (gone_line app st.look (λ n. n)) (gone (λ q. has_id q (row_ids (page_rows l'))) l)

module _ (env : Env) (lowered : AllLowered env) (differ : FieldsDiffer env.app) where
  pub first_made : (n q : ℕ) → class_number env.manifest env.app.root ≡ Some q → (x : Code × State)
      → append_page_as by_number env.app.limit env [] (run_for_as by_number env [] n) q rooted ≡ ok x → Made env first_state None [] 0 x.0 x.1
  first_made n q c x is =
      let w : WordsBy env first_state None (ok x) = subst (WordsBy env first_state None) is (first_words env lowered differ n q c) in
      record { turn = w.0; is = w.1; by = w.2; moves = first_moves_none env.app w.0 w.1; placed = w.3; text = first_text env.app w.0 w.1 x.1 (live_of x.0) w.2 }

  pub first_fails : (n q : ℕ) → class_number env.manifest env.app.root ≡ Some q
      → append_page_as by_number env.app.limit env [] (run_for_as by_number env [] n) q rooted ≡ deep → step env.app first_state None ≡ None
  first_fails n q c is = subst (WordsBy env first_state None) is (first_words env lowered differ n q c)

  module _ (s : session.State) (e : Event) (reached : Reached env.app s) (k : Code) (st : State) (placed : PlacedRoot env k) (f : FollowsBy env.app s st (live_of k))
      (xs : List Put) (own : AreOwn env.app f.named.owner (live_of k) xs) (same : (applied env.app s (Some e)).sets ≡ map (held_of f.named.owner) xs) (n : ℕ) where
    -- what is set by owners is there
    there : AreThere env.app (live_of k) (applied env.app s (Some e)).sets
    there = subst (AreThere env.app (live_of k)) (sym same) (puts_by env.app s st (live_of k) f xs own).0

    -- the update of the tree
    abbrev now : Live × State
    now = renew_app_as by_number env.app [] (live_of k) (set_all_by env.app (live_of k) (applied env.app s (Some e)).sets (begin st))

    now_is : (x : Code × State) → renew_root_code_as by_number env.app.limit (run_for_as by_number env [] n) k (put_all xs (begin st)) ≡ ok x → (live_of x.0, x.1) ≡ now
    now_is x is =
        let laid : set_all_by env.app (live_of k) (applied env.app s (Some e)).sets (begin st) ≡ put_all xs (begin st) =
        ap (λ hs. set_all_by env.app (live_of k) hs (begin st)) same ∙ (puts_by env.app s st (live_of k) f xs own).1 in
        let tree : Follows (PlacedRoot env) live_of is_deep (ok x) (renew_app_as by_number env.app [] (live_of k) (put_all xs (begin st))) =
        subst (λ o. Follows (PlacedRoot env) live_of is_deep o (renew_app_as by_number env.app [] (live_of k) (put_all xs (begin st)))) is (page_is_renewed by_number env [] lowered n k (put_all xs (begin st)) placed) in
        tree.0 ∙ ap (renew_app_as by_number env.app [] (live_of k)) (sym laid)

    -- it doesn't matter whether what was destroyed is told by what stands in the next tree or by what is kept then
    pub next_ends : (x : Code × State) → renew_root_code_as by_number env.app.limit (run_for_as by_number env [] n) k (put_all xs (begin st)) ≡ ok x
        → ended_lines env.app st (live_of k) (live_of x.0) ≡ destroyed_lines env.app st (live_of k) x.1
    next_ends x is =
        subst (λ (z : Live × State). ended_lines env.app st (live_of k) z.0 ≡ destroyed_lines env.app st (live_of k) z.1) (sym (now_is x is)) (rows_tell env.app differ s e reached st (live_of k) f there)

    pub next_made : (x : Code × State) → renew_root_code_as by_number env.app.limit (run_for_as by_number env [] n) k (put_all xs (begin st)) ≡ ok x
        → Made env s (Some e) (ended_lines env.app st (live_of k) (live_of x.0)) (moved_between (live_of k) (live_of x.0)) x.0 x.1
    next_made x is =
        let w : WordsBy env s (Some e) (ok x) = subst (WordsBy env s (Some e)) is (puts_words env lowered differ s e reached k st placed f xs own same n) in
        let r = now_is x is in
        record {
          turn = w.0;
          is = w.1;
          by = w.2;
          moves = next_moves_by env.app differ s e w.0 reached w.1 st (live_of k) f there ∙ ap (λ (z : Live × State). moved_between (live_of k) z.0) (sym r);
          placed = w.3;
          text =
              subst (λ (z : Live × State). text_of_turn env.app s (Some e) z.1 z.0 (ended_lines env.app st (live_of k) z.0) ≡ w.0.text) (sym r)
              (ap (text_of_turn env.app s (Some e) now.1 now.0) (rows_tell env.app differ s e reached st (live_of k) f there) ∙ next_text env.app differ s e reached w.0 w.1 st (live_of k) f there);
        }

    pub next_fails : renew_root_code_as by_number env.app.limit (run_for_as by_number env [] n) k (put_all xs (begin st)) ≡ deep → step env.app s (Some e) ≡ None
    next_fails is = subst (WordsBy env s (Some e)) is (puts_words env lowered differ s e reached k st placed f xs own same n)
