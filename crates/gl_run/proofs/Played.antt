-- A session that is played turn by turn.
use Rattle.std.proofs.Common.{◌≡◌, inl, inr, ℕ, ◌+◌, suc, List, [], ◌∷◌, ◌++◌, length, take, Bool, true, false, Option, Some, None, Ok, Err, refl, sym, ap, ◌∙◌, subst, append_assoc, append-nil, arith}
use Rattle.std.specs.Prelude.{if◌then◌else◌}
use Rattle.std.proofs.Math.Seq.{take-append_seam}
use Rattle.std.proofs.lemmas.Grind.{flat_map-append}
use Rattle.std.proofs.lemmas.List.{map-append}
use Rattle.std.proofs.lemmas.Str.{encodes-append}
use Rattle.gl_base.specs.Texts.{Text, bytes_of, joined}
use Rattle.gl_base.specs.Taking.{Takes, TakesFront, TakesSome}
use Rattle.gl_base.proofs.Taken.{takes_nothing, takes_more, front_more, front_of, some_nothing}
use Rattle.gl_ast.specs.Template.{Body}
use Rattle.gl_meaning.specs.App as a
use Rattle.gl_meaning.specs.Manifest.{app_of}
use Rattle.gl_meaning.specs.Session.{State, first_state, Turn, step, Session, go_on, session_from, session}
use Rattle.gl_meaning.specs.View.{manifest_view}
use Rattle.gl_opc.specs.IsApp.{IsAppWith}
use Rattle.gl_opc.specs.declared.app.App.{App}
use Rattle.gl_session.specs.Standing.{StandsAt, Starts, Turns, Counts, Asked, AsksAtMost}
use Rattle.gl_session.specs.Turn.{work_view, added}
use Rattle.gl_session.specs.declared.session.Session as code
use Rattle.gl_session.specs.declared.turn.Turn as by_code
use Rattle.gl_run.specs.Holds.{state_after, EndsAt}
use Rattle.gl_commands.specs.Output.{too_deep, stopped_at, played, played_app}
use Rattle.gl_commands.specs.Told.{told_text, told_texts}
use Rattle.gl_run.specs.Told.{seen_text}
use Rattle.gl_commands.specs.declared.told.Told.{Told}
use Rattle.gl_commands.specs.Plays.{PutFails, Plays, PlayFails}
use Rattle.gl_run.specs.Plays.{StartStops, TurnStops, Opens, GoesOn}
use Rattle.gl_run.specs.Reached.{of_turns, turns_before, turn_bytes, Reached}
use Rattle.gl_commands.specs.declared.fault.PlayFault.{PlayFault}
use Rattle.gl_commands.specs.declared.fault.PlayFault.TheVariants as v
use Rattle.gl_run.proofs.Works.{told_is, counts_first, counts_more, asks_first, asks_more}

-- The texts of an output that is played

played_texts : (limit : ℕ) (o : Option ℕ) (texts : List Text) → (stopped_at limit o texts).texts ≡ texts
played_texts limit None texts = refl
played_texts limit (Some turn) texts = refl

bytes_more : (told : Told) (done more : List Turn) → turn_bytes told (done ++ more) ≡ turn_bytes told done ++ turn_bytes told more
bytes_more told done more =
    ap (λ ts. bytes_of (joined ts)) (map-append (told_text told) done more)
    ∙ ap bytes_of (flat_map-append (λ (t : Text). t) (told_texts told done) (told_texts told more))
    ∙ encodes-append (joined (told_texts told done)) (joined (told_texts told more))

one_text : (told : Told) (t : Turn) → joined (told_texts told (t ∷ [])) ≡ told_text told t
one_text told t = append-nil (told_text told t)

-- so many texts, each whole
some_done : (told : Told) (limit : ℕ) (done : List Turn) (rest : Session) (old now : Option (List ℕ)) → Takes old now (turn_bytes told done) → TakesSome old now (played told limit (turns_before done rest)).texts
some_done told limit done rest old now p =
    let all = played_texts limit rest.stopped (told_texts told (done ++ rest.turns)) ∙ map-append (told_text told) done rest.turns in
    let first = ap (take (length (told_texts told done))) all ∙ take-append_seam (told_texts told done) (told_texts told rest.turns) in
    (length (told_texts told done), subst (λ ts. Takes old now (bytes_of (joined ts))) (sym first) p)

-- the put of the next text fails
put_stops : (told : Told) (limit : ℕ) (f : PlayFault) (done : List Turn) (t : Turn) (rest : Session) (old now new : Option (List ℕ)) → Takes old now (turn_bytes told done) → PutFails f now new (told_text told t)
    → PlayFails f old new (played told limit (turns_before done (of_turns rest.stopped (t ∷ rest.turns))))
put_stops told limit (v.NestingLimit turn most) done t rest old now new p q = absurd q
put_stops told limit v.WriteFault done t rest old now new p q =
    let more = turn_bytes told rest.turns in
    let all =
    ap (λ ts. bytes_of (joined ts)) (played_texts limit rest.stopped (told_texts told (done ++ t ∷ rest.turns)))
    ∙ bytes_more told done (t ∷ rest.turns)
    ∙ ap (λ b. turn_bytes told done ++ b) (encodes-append (told_text told t) (joined (told_texts told rest.turns)))
    in subst (λ b. TakesFront old new b) (sym all) (front_more old now new (turn_bytes told done) (bytes_of (told_text told t) ++ more) p (front_of now new (bytes_of (told_text told t)) more q))
put_stops told limit v.Memory done t rest old now new p q =
    some_done told limit done (of_turns rest.stopped (t ∷ rest.turns)) old new (subst (λ x. Takes old x (turn_bytes told done)) (sym q) p)

-- The number of a turn

chosen : (fits : Bool) (made t : Turn) → (if fits then Some made else None) ≡ Some t → made ≡ t
chosen true made t e = cc
chosen false made t e = absurd cc

numbered : (app : a.App) (s : State) (e : Option a.Event) (t : Turn) → step app s e ≡ Some t → t.state.turn ≡ suc s.turn
numbered app s e t is = sym (ap (λ (x : Turn). x.state.turn) (chosen _ _ t is))

pub after_more : (s : State) (done : List Turn) (t : Turn) → state_after s (done ++ t ∷ []) ≡ t.state
after_more s [] t = refl
after_more s (d ∷ done) t = after_more d.state done t

-- Turn 0

pub first_turn : (app : a.App) (events : List a.Event) (t : Turn) → step app first_state None ≡ Some t
    → session app events ≡ turns_before [] (of_turns (session_from app events t.state).stopped (t ∷ (session_from app events t.state).turns))
first_turn app events t made = ap (λ o. go_on first_state o (session_from app events)) made

module _ (told : Told) (app : App) (templates : List Body) (events : List a.Event) where
  abbrev of_app : a.App
  of_app = app_of (manifest_view app.manifest) templates

  -- what a play that ended so says of a session
  abbrev Left : PlayFault → Option (List ℕ) → Option (List ℕ) → Session → Type 0
  Left f old new s = PlayFails f old new (played told app.manifest.limit s)

  -- how far it is
  abbrev Here : List a.Event → ℕ → code.Session → Option (List ℕ) → Option (List ℕ) → Type 0
  Here left turn held old now = Reached told app templates events left turn held old now

  pub left_is : (left same : List a.Event) (turn : ℕ) (held : code.Session) (old now : Option (List ℕ)) → left ≡ same → Here left turn held old now → Here same turn held old now
  left_is left same turn held old now e r = subst (λ es. Here es turn held old now) e r

  -- Turn 0

  pub start_reached : (held : code.Session) (m : by_code.Turn) (old now : Option (List ℕ)) → Starts app templates held m → held.counts ≡ m.work → held.asks ≡ 0 → Takes old now (bytes_of (seen_text told m)) → Here events 1 held old now
  start_reached held m old now (t, made, is, stands) c q p = record {
    state = t.state;
    done = t ∷ [];
    stands = stands;
    counts = counts_first held m t c is;
    asks = asks_first held t q;
    number = numbered of_app first_state None t made;
    last = refl;
    whole = first_turn of_app events t made;
    taken = subst (λ x. Takes old now (bytes_of x)) (told_is told m t is ∙ sym (one_text told t)) p;
  }

  pub start_put_stops : (f : PlayFault) (held : code.Session) (m : by_code.Turn) (old now : Option (List ℕ)) → Starts app templates held m → PutFails f old now (seen_text told m) → PlayFails f old now (played_app told of_app events)
  start_put_stops f held m old now (t, made, is, stands) p =
      let put = subst (λ x. PutFails f old now x) (told_is told m t is) p in
      subst (Left f old now) (sym (first_turn of_app events t made)) (put_stops told app.manifest.limit f [] t (session_from of_app events t.state) old old now (takes_nothing old) put)

  start_too_deep : (took : Option (List ℕ)) → step of_app first_state None ≡ None → PlayFails (v.NestingLimit 0 app.manifest.limit) took took (played_app told of_app events)
  start_too_deep took none =
      let is : session of_app events ≡ of_turns (Some 0) [] = ap (λ o. go_on first_state o (session_from of_app events)) none in
      subst (Left (v.NestingLimit 0 app.manifest.limit) took took) (sym is) (refl, refl, takes_nothing took)

  pub start_stops : (f : PlayFault) (took : Option (List ℕ)) → IsAppWith (manifest_view app.manifest) templates app.programs → StartStops app f → PlayFails f took took (played_app told of_app events)
  start_stops (v.NestingLimit turn limit) took is h = rw (h.0, h.1) (start_too_deep took (h.2 templates is))
  start_stops v.WriteFault took is h = absurd h
  start_stops v.Memory took is h = some_nothing took (played_app told of_app events).texts

  pub opened : (held : code.Session) (old now : Option (List ℕ)) → IsAppWith (manifest_view app.manifest) templates app.programs → Opens told app (Ok held) old now → Here events 1 held old now
  opened held old now is (m, starts, taken) = start_reached held m old now (starts.stands templates is) starts.counts starts.asks taken

  pub open_stops : (f : PlayFault) (old now : Option (List ℕ)) → IsAppWith (manifest_view app.manifest) templates app.programs → Opens told app (Err f) old now → PlayFails f old now (played_app told of_app events)
  open_stops f old now is (inl (stops, same)) = subst (λ x. PlayFails f old x (played_app told of_app events)) (sym same) (start_stops f old is stops)
  open_stops f old now is (inr (held, m, starts, puts)) = start_put_stops f held m old now (starts.stands templates is) puts

  -- The turn of an event

  module _ (e : a.Event) (left : List a.Event) (turn : ℕ) (held : code.Session) (old now : Option (List ℕ)) (r : Here (e ∷ left) turn held old now) where
    next_turn : (t : Turn) → step of_app r.state (Some e) ≡ Some t → session of_app events ≡ turns_before r.done (of_turns (session_from of_app left t.state).stopped (t ∷ (session_from of_app left t.state).turns))
    next_turn t made = r.whole ∙ ap (λ o. turns_before r.done (go_on r.state o (session_from of_app left))) made

    pub turn_reached : (new_held : code.Session) (m : by_code.Turn) (new : Option (List ℕ)) → Turns app templates r.state e new_held m → work_view new_held.counts ≡ added (work_view held.counts) (work_view m.work) → Asked app templates r.state e held new_held → Takes now new (bytes_of (seen_text told m)) → Here left (turn + 1) new_held old new
    turn_reached new_held m new (t, made, is, stands) c q p =
        let rest = session_from of_app left t.state in
        let risen = numbered of_app r.state (Some e) t made in
        let before = r.number in
        let bytes = ap (λ x. turn_bytes told r.done ++ bytes_of x) (told_is told m t is ∙ sym (one_text told t)) ∙ sym (bytes_more told r.done (t ∷ [])) in
        record {
          state = t.state;
          done = r.done ++ t ∷ [];
          stands = stands;
          counts = counts_more held new_held m r.done t r.counts c is;
          asks = asks_more held new_held r.done t r.asks (q t made).1;
          number = omega (arith, risen, before);
          last = after_more first_state r.done t;
          whole = next_turn t made ∙ ap (of_turns rest.stopped) (sym (append_assoc r.done (t ∷ []) rest.turns));
          taken = subst (λ b. Takes old new b) bytes (takes_more old now new (turn_bytes told r.done) (bytes_of (seen_text told m)) r.taken p);
        }

    pub turn_put_stops : (f : PlayFault) (new_held : code.Session) (m : by_code.Turn) (new : Option (List ℕ)) → Turns app templates r.state e new_held m → PutFails f now new (seen_text told m) → PlayFails f old new (played_app told of_app events)
    turn_put_stops f new_held m new (t, made, is, stands) p =
        let put = subst (λ x. PutFails f now new x) (told_is told m t is) p in
        subst (Left f old new) (sym (next_turn t made)) (put_stops told app.manifest.limit f r.done t (session_from of_app left t.state) old now new r.taken put)

    turn_too_deep : step of_app r.state (Some e) ≡ None → PlayFails (v.NestingLimit turn app.manifest.limit) old now (played_app told of_app events)
    turn_too_deep none =
        let is = r.whole ∙ ap (λ o. turns_before r.done (go_on r.state o (session_from of_app left))) none ∙ ap (of_turns (Some r.state.turn)) (append-nil r.done) in
        subst (Left (v.NestingLimit turn app.manifest.limit) old now) (sym is) (refl, ap (λ n. too_deep n app.manifest.limit) r.number, r.taken)

    turn_wants : PlayFails v.Memory old now (played_app told of_app events)
    turn_wants = subst (Left v.Memory old now) (sym r.whole) (some_done told app.manifest.limit r.done (session_from of_app (e ∷ left) r.state) old now r.taken)

    pub turn_stops : (f : PlayFault) → TurnStops held e turn app.manifest.limit f → PlayFails f old now (played_app told of_app events)
    turn_stops (v.NestingLimit number limit) h = rw (h.0, h.1) (turn_too_deep (h.2 app templates r.state r.stands))
    turn_stops v.WriteFault h = absurd h
    turn_stops v.Memory h = turn_wants

    pub gone_on : (new_held : code.Session) (most : ℕ) (new : Option (List ℕ)) → GoesOn {X = Unit {0}} told (Ok tt) held new_held e turn most now new → Here left (turn + 1) new_held old new
    gone_on new_held most new (m, turns, taken) = turn_reached new_held m new (turns.stands app templates r.state r.stands) turns.counts (turns.asks app templates r.state r.stands) taken

    pub goes_no_further : (f : PlayFault) (new_held : code.Session) (most : ℕ) (new : Option (List ℕ)) → most ≡ app.manifest.limit → GoesOn {X = Unit {0}} told (Err f) held new_held e turn most now new → PlayFails f old new (played_app told of_app events)
    goes_no_further f new_held most new limit (inl (stops, same)) =
        subst (λ x. PlayFails f old x (played_app told of_app events)) (sym same) (turn_stops f (subst (λ n. TurnStops held e turn n f) limit stops))
    goes_no_further f new_held most new limit (inr (m, turns, puts)) = turn_put_stops f new_held m new (turns.stands app templates r.state r.stands) puts

  -- memory is wanting for the next number
  pub reached_wants : (left : List a.Event) (turn : ℕ) (held : code.Session) (old now : Option (List ℕ)) → Here left turn held old now → PlayFails v.Memory old now (played_app told of_app events)
  reached_wants left turn held old now r = subst (Left v.Memory old now) (sym r.whole) (some_done told app.manifest.limit r.done (session_from of_app left r.state) old now r.taken)

  -- no event is left
  ended : (turn : ℕ) (held : code.Session) (old now : Option (List ℕ)) (r : Here [] turn held old now) → session of_app events ≡ of_turns None r.done
  ended turn held old now r = r.whole ∙ ap (of_turns None) (append-nil r.done)

  pub all_played : {X : Type 0} (made : X) (turn : ℕ) (held : code.Session) (old now : Option (List ℕ)) → Here [] turn held old now → Plays (Ok made) old now (played_app told of_app events)
  all_played made turn held old now r = subst (λ s. Plays (Ok made) old now (played told app.manifest.limit s)) (sym (ended turn held old now r)) (refl, r.taken)

  pub all_ends : (turn : ℕ) (held : code.Session) (old now : Option (List ℕ)) → Here [] turn held old now → EndsAt held app templates events
  all_ends turn held old now r =
      let all = ended turn held old now r in
      record {
        stands = subst (λ s. StandsAt held app templates s) (sym (ap (λ (x : Session). state_after first_state x.turns) all ∙ r.last)) r.stands;
        counts = subst (λ (x : Session). Counts held x.turns) (sym all) r.counts;
        asks = subst (λ (x : Session). AsksAtMost held x.turns) (sym all) r.asks;
      }
