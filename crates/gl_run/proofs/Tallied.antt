-- A session that is played turn by turn, of which a tally is kept.
use Rattle.std.proofs.Common.{◌≡◌, ◌+◌, List, [], ◌∷◌, ◌++◌, length, None, refl, sym, ap, ◌∙◌, subst, append_assoc, append-nil, length-append}
use Rattle.std.proofs.lemmas.Grind.{flat_map-append}
use Rattle.std.proofs.lemmas.List.{map-append}
use Rattle.std.proofs.lemmas.Str.{encodes-append}
use Rattle.gl_base.specs.Texts.{Text, bytes_of, joined}
use Rattle.gl_ast.specs.Template.{Body}
use Rattle.gl_meaning.specs.App as a
use Rattle.gl_meaning.specs.Manifest.{app_of}
use Rattle.gl_meaning.specs.Session.{first_state, Turn, Session, go_on, session_from, session}
use Rattle.gl_meaning.specs.View.{manifest_view}
use Rattle.gl_opc.specs.declared.app.App.{App}
use Rattle.gl_session.specs.Standing.{StandsAt, Starts, Turns, Counts, Asked, AsksAtMost}
use Rattle.gl_session.specs.Turn.{work_view, added}
use Rattle.gl_session.specs.declared.session.Session as code
use Rattle.gl_session.specs.declared.turn.Turn as by_code
use Rattle.gl_run.specs.Holds.{state_after, EndsAt}
use Rattle.gl_commands.specs.Output.{turn_texts}
use Rattle.gl_commands.specs.Sample.{last_of, last_text, byte_count}
use Rattle.gl_run.specs.Sample.{Tallies, Sums}
use Rattle.gl_run.specs.declared.sample.Tally.{Tally}
use Rattle.gl_run.specs.Reached.{of_turns, turns_before, Counted}
use Rattle.gl_run.proofs.Played.{after_more, first_turn}
use Rattle.gl_run.proofs.Works.{counts_first, counts_more, asks_first, asks_more}

last_of_more : (first : Text) (texts : List Text) (text : Text) → last_of first (texts ++ text ∷ []) ≡ text
last_of_more first [] text = refl
last_of_more first (t ∷ texts) text = last_of_more t texts text

last_of_all : (texts : List Text) (text : Text) → last_text (texts ++ text ∷ []) ≡ text
last_of_all [] text = refl
last_of_all (t ∷ texts) text = last_of_more t texts text

bytes_more : (texts : List Text) (text : Text) → byte_count (joined (texts ++ text ∷ [])) ≡ byte_count (joined texts) + byte_count text
bytes_more texts text =
    ap byte_count (flat_map-append (λ (t : Text). t) texts (text ∷ []) ∙ ap (λ t. joined texts ++ t) (append-nil text))
    ∙ ap length (encodes-append (joined texts) text)
    ∙ length-append (bytes_of (joined texts)) (bytes_of text)

-- one text more is counted
tallies_more : (old new : Tally) (texts : List Text) (text : Text) → Tallies old texts → new.turns ≡ old.turns + 1 → new.bytes ≡ old.bytes + byte_count text → new.last ≡ byte_count text
    → Tallies new (texts ++ text ∷ [])
tallies_more old new texts text (turns, bytes, last) t b l =
    (t ∙ ap (λ n. n + 1) turns ∙ sym (length-append texts (text ∷ [])), b ∙ ap (λ n. n + byte_count text) bytes ∙ sym (bytes_more texts text), l ∙ ap byte_count (sym (last_of_all texts text)))

module _ (app : App) (templates : List Body) (events : List a.Event) where
  abbrev of_app : a.App
  of_app = app_of (manifest_view app.manifest) templates

  -- how far it is
  abbrev Here : List a.Event → code.Session → Tally → Type 0
  Here left held tally = Counted app templates events left held tally

  pub left_is : (left same : List a.Event) (held : code.Session) (tally : Tally) → left ≡ same → Here left held tally → Here same held tally
  left_is left same held tally e r = subst (λ es. Here es held tally) e r

  pub start_counted : (held : code.Session) (m : by_code.Turn) (tally : Tally) → Starts app templates held m → held.counts ≡ m.work → held.asks ≡ 0 → Tallies tally (m.text ∷ []) → Here events held tally
  start_counted held m tally (t, made, is, stands) c q p = record {
    state = t.state;
    done = t ∷ [];
    stands = stands;
    counts = counts_first held m t c is;
    asks = asks_first held t q;
    last = refl;
    whole = first_turn of_app events t made;
    tallied = subst (λ x. Tallies tally (x ∷ [])) is.text p;
  }

  pub turn_counted : (e : a.Event) (left : List a.Event) (held : code.Session) (tally : Tally) (r : Here (e ∷ left) held tally) (new_held : code.Session) (m : by_code.Turn) (new : Tally)
      → Turns app templates r.state e new_held m → work_view new_held.counts ≡ added (work_view held.counts) (work_view m.work) → Asked app templates r.state e held new_held
      → new.turns ≡ tally.turns + 1 → new.bytes ≡ tally.bytes + byte_count m.text → new.last ≡ byte_count m.text → Here left new_held new
  turn_counted e left held tally r new_held m new (t, made, is, stands) c q turns bytes last =
      let rest = session_from of_app left t.state in
      let all = ap (λ x. turn_texts r.done ++ x ∷ []) is.text ∙ sym (map-append (λ (u : Turn). u.text) r.done (t ∷ [])) in
      record {
        state = t.state;
        done = r.done ++ t ∷ [];
        stands = stands;
        counts = counts_more held new_held m r.done t r.counts c is;
        asks = asks_more held new_held r.done t r.asks (q t made).1;
        last = after_more first_state r.done t;
        whole = r.whole ∙ ap (λ o. turns_before r.done (go_on r.state o (session_from of_app left))) made ∙ ap (of_turns rest.stopped) (sym (append_assoc r.done (t ∷ []) rest.turns));
        tallied = subst (Tallies new) all (tallies_more tally new (turn_texts r.done) m.text r.tallied turns bytes last);
      }

  -- no event is left
  ended : (held : code.Session) (tally : Tally) (r : Here [] held tally) → session of_app events ≡ of_turns None r.done
  ended held tally r = r.whole ∙ ap (of_turns None) (append-nil r.done)

  pub all_summed : (held : code.Session) (tally : Tally) → Here [] held tally → Sums tally (session of_app events)
  all_summed held tally r = subst (Sums tally) (sym (ended held tally r)) (refl, r.tallied)

  pub all_ends : (held : code.Session) (tally : Tally) → Here [] held tally → EndsAt held app templates events
  all_ends held tally r =
      let all = ended held tally r in
      record {
        stands = subst (λ s. StandsAt held app templates s) (sym (ap (λ (x : Session). state_after first_state x.turns) all ∙ r.last)) r.stands;
        counts = subst (λ (x : Session). Counts held x.turns) (sym all) r.counts;
        asks = subst (λ (x : Session). AsksAtMost held x.turns) (sym all) r.asks;
      }
