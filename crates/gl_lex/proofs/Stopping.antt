-- The reading forward stops just where the text lacks a token.
use Rattle.std.proofs.Common.{◌≡◌, ◌≤◌, ◌<◌, ◌+◌, ℕ, zero, suc, List, [], ◌∷◌, Bool, true, false, Option, Some, None, Result, Ok, Err, length, length-append, refl, sym, ap, subst, ◌∙◌, arith}
use Rattle.std.specs.Prelude.{IfErr, if◌then◌else◌}
use Rattle.gl_base.specs.Answers.{Gives}
use Rattle.gl_ast.specs.Modes.{Found, first_found, token, spaced}
use Rattle.gl_ast.specs.TokenReading.{width, token_at, stands_white}
use Rattle.gl_ast.specs.Tokens.{forms}
use Rattle.gl_ast.specs.declared.mode.Mode.{Mode}
use Rattle.gl_ast.specs.declared.token.Token.{Token}
use Rattle.gl_ast.proofs.Progress.{token_steps}
use Rattle.gl_ast.proofs.Readings.{token_is, token_longest, longest_token}
use Rattle.gl_lex.specs.Begun.{is_begun}
use Rattle.gl_lex.specs.Fault.{Fails, IsWithin}
use Rattle.gl_lex.specs.Front.{Front, front_from, with_front, stop_at, all_of}
use Rattle.gl_lex.specs.Stops.{NoneStands, Stops, lacks, passes, reads, NamesStop, GivesFront}
use Rattle.gl_lex.specs.declared.fault.LexFault.{LexFault}
use Rattle.gl_lex.specs.declared.fault.LexFault.TheVariants as v
use Rattle.gl_lex.proofs.Fronted.{front_white, front_token, front_none}

first_none : (os : List (Option Found)) → first_found os ≡ None → NoneStands os
first_none [] e = tt
first_none (None ∷ os) e = (refl, first_none os e)
first_none (Some f ∷ os) e = cc

none_first : (os : List (Option Found)) → NoneStands os → first_found os ≡ None
none_first [] n = refl
none_first (None ∷ os) n = none_first os n.1
none_first (Some f ∷ os) n = let h = n.0 in cc

-- the front of a text that lacks a token
pub stops_front : (mode : Mode) (at : ℕ) (bs : List ℕ) (list : List Token) (place : ℕ) → Stops mode at bs list place → front_from mode 0 at bs ≡ (list, Some place)
stops_front _ _ _ _ _ (lacks {mode} {at} {bs} some tight none) = front_none mode at bs some tight (token_is mode bs ∙ none_first (forms mode bs) none)
stops_front _ _ _ _ _ (passes {mode} {at} {b} {place} {bs} {list} white more) = front_white mode at (b ∷ bs) white ∙ stops_front (spaced mode) (at + 1) bs list place more
stops_front _ _ _ _ _ (reads {mode} {at} {place} {bs} {list} f tight l more) =
    let is = longest_token mode bs f l in
    front_token mode at bs f tight is (token_steps mode bs f is)
    ∙ ap (λ r. with_front (token_at at bs f ∷ []) r) (stops_front f.2 (at + width bs f) f.1 list place more)

abbrev Below : ℕ → Type 0
Below n = (mode : Mode) (at : ℕ) (bs : List ℕ) (list : List Token) (place : ℕ) → length bs ≤ n → front_from mode 0 at bs ≡ (list, Some place) → Stops mode at bs list place

stop_case : (n : ℕ) (mode : Mode) (at : ℕ) (bs : List ℕ) (list : List Token) (place : ℕ) (o : Option Found) → length bs ≤ suc n → 0 < length bs → stands_white mode bs ≡ false → token mode bs ≡ o
    → front_from mode 0 at bs ≡ (list, Some place) → Below n → Stops mode at bs list place
stop_case n mode at bs list place None h some tight is read more =
    let k = sym (front_none mode at bs some tight is) ∙ read in
    let nil : [] ≡ list = ap (λ r. r.0) k in
    let here : Some (stop_at mode at bs) ≡ Some place = ap (λ r. r.1) k in
    let there : stop_at mode at bs ≡ place = cc in
    subst (λ (l : List Token). Stops mode at bs l place) nil
    (subst (λ (p : ℕ). Stops mode at bs [] p) there (lacks some tight (first_none (forms mode bs) (sym (token_is mode bs) ∙ is))))
stop_case n mode at bs list place (Some f) h some tight is read more =
    let s = token_steps mode bs f is in
    let r = front_from f.2 0 (at + width bs f) f.1 in
    let k = sym (front_token mode at bs f tight is s) ∙ read in
    let same : token_at at bs f ∷ r.0 ≡ list = ap (λ q. q.0) k in
    let there : r.1 ≡ Some place = ap (λ q. q.1) k in
    let short : length f.1 ≤ n = omega (arith, h, ap length s.2, length-append s.1 f.1) in
    let rest : r ≡ (r.0, Some place) = ap (λ (o : Option ℕ). (r.0, o)) there in
    subst (λ (l : List Token). Stops mode at bs l place) same (reads f tight (token_longest mode bs f is) (more f.2 (at + width bs f) f.1 r.0 place short rest))

stop_either : (n : ℕ) (mode : Mode) (at b : ℕ) (bs : List ℕ) (list : List Token) (place : ℕ) (t : Bool) → stands_white mode (b ∷ bs) ≡ t → length (b ∷ bs) ≤ suc n
    → front_from mode 0 at (b ∷ bs) ≡ (list, Some place) → Below n → Stops mode at (b ∷ bs) list place
stop_either n mode at b bs list place true is h read more =
    let short : length bs ≤ n = omega (arith, h) in
    passes is (more (spaced mode) (at + 1) bs list place short (sym (front_white mode at (b ∷ bs) is) ∙ read))
stop_either n mode at b bs list place false is h read more =
    let some : 0 < length (b ∷ bs) = omega arith in stop_case n mode at (b ∷ bs) list place (token mode (b ∷ bs)) h some is refl read more

stop_within : (n : ℕ) → Below n
stop_within n mode at [] list place h read = let k : None ≡ Some place = ap (λ r. r.1) read in cc
stop_within zero mode at (b ∷ bs) list place h read = absurd (omega (arith, h))
stop_within (suc n) mode at (b ∷ bs) list place h read = stop_either n mode at b bs list place (stands_white mode (b ∷ bs)) refl h read (stop_within n)

pub front_stops : (mode : Mode) (at : ℕ) (bs : List ℕ) (list : List Token) (place : ℕ) → front_from mode 0 at bs ≡ (list, Some place) → Stops mode at bs list place
front_stops mode at bs list place read = let h : length bs ≤ length bs = omega arith in stop_within (length bs) mode at bs list place h read

-- so a text lacks a token at one place
pub one_stop : (mode : Mode) (at : ℕ) (bs : List ℕ) (list other : List Token) (place there : ℕ) → Stops mode at bs list place → Stops mode at bs other there → (list ≡ other) × (place ≡ there)
one_stop mode at bs list other place there s r =
    let e = sym (stops_front mode at bs list place s) ∙ stops_front mode at bs other there r in
    let o : Some place ≡ Some there = ap (λ q. q.1) e in
    (ap (λ q. q.0) e, cc)

-- the place is within the text
begun_within : (limit at : ℕ) (bs : List ℕ) (t : Bool) → at + length bs ≤ limit → (if t then at + length bs else at) ≤ limit
begun_within limit at bs true h = h
begun_within limit at bs false h = omega (arith, h)

pub stops_within : (limit : ℕ) (mode : Mode) (at : ℕ) (bs : List ℕ) (list : List Token) (place : ℕ) → at + length bs ≤ limit → Stops mode at bs list place → place ≤ limit
stops_within limit _ _ _ _ _ h (lacks {mode} {at} {bs} some tight none) = begun_within limit at bs (is_begun mode bs) h
stops_within limit _ _ _ _ _ h (passes {mode} {at} {b} {place} {bs} {list} white more) =
    let k : at + 1 + length bs ≤ limit = omega (arith, h) in stops_within limit (spaced mode) (at + 1) bs list place k more
stops_within limit _ _ _ _ _ h (reads {mode} {at} {place} {bs} {list} f tight l more) =
    let s = token_steps mode bs f (longest_token mode bs f l) in
    let k : at + width bs f + length f.1 ≤ limit = omega (arith, h, ap length s.2, length-append s.1 f.1) in
    stops_within limit f.2 (at + width bs f) f.1 list place k more

-- what the answer tells of the front
pub told_all : (r : Result (List Token) LexFault) (front : Front) → GivesFront front r → Gives Fails (λ list. list) r (all_of front)
told_all (Ok list) (ts, None) e = ap Some (sym e)
told_all (Ok list) (ts, Some place) e = absurd e
told_all (Err (v.NoToken offset)) (ts, None) e = absurd e
told_all (Err (v.NoToken offset)) (ts, Some place) e = refl
told_all (Err v.Memory) front e = tt

pub told_stop : (mode : Mode) (bs : List ℕ) (r : Result (List Token) LexFault) (front : Front) → front ≡ front_from mode 0 0 bs → GivesFront front r → IfErr r (NamesStop mode bs)
told_stop mode bs (Ok list) front is e = tt
told_stop mode bs (Err (v.NoToken offset)) (ts, None) is e = absurd e
told_stop mode bs (Err (v.NoToken offset)) (ts, Some place) is e = (ts, front_stops mode 0 bs ts offset (sym is ∙ ap (λ n. (ts, Some n)) (sym e)))
told_stop mode bs (Err v.Memory) front is e = tt

pub told_within : (mode : Mode) (bs : List ℕ) (r : Result (List Token) LexFault) → IfErr r (NamesStop mode bs) → IfErr r (IsWithin (length bs))
told_within mode bs (Ok list) s = tt
told_within mode bs (Err (v.NoToken offset)) s = let h : 0 + length bs ≤ length bs = omega arith in stops_within (length bs) mode 0 bs s.0 offset h s.1
told_within mode bs (Err v.Memory) s = tt
