use Rattle.std.proofs.Common.{◌≡◌, ◌+◌, ◌++◌, ◌∷◌, [], true, false, Some, length, length-drop, drop, sym, ◌∙◌, ap, arith}
use Rattle.gl_ast.specs.Modes.{token}
use Rattle.gl_ast.specs.TokenReading.{stands_white, width}
use Rattle.gl_ast.proofs.Forward.{Steps}
use Rattle.gl_ast.proofs.Progress.{token_steps}
use Rattle.gl_ast.proofs.Reading.{white_steps, white_border, token_border, token_left}
use Rattle.gl_lex.specs.Clear.{IsClear}
use Rattle.gl_lex.specs.Found.{found_of}
use Rattle.gl_lex.specs.Front.{front_from, with_front}
use Rattle.gl_lex.proofs.Fronted.{front_white, front_more}
use Rattle.gl_lex.proofs.Turns.{falls, steps_clear, token_same}
use Rattle.gl_lex.proofs.lexer.read.Goals as goal

pub after_byte-rest-requires : goal.after_byte-rest-requires
after_byte-rest-requires c =
    let rest = c.loop-rest.rest.now in
    let white : stands_white c.loop-rest.mode rest ≡ true = rw (← c.as_bytes-bytes.ensures.value) (sym c.stands_white.ensures ∙ c.if-stands_white.true) in
    white_border c.loop-rest.mode rest c.loop-rest.invariant.text white

pub loop-rest-preserved-then-stands_white : goal.loop-rest-preserved-then-stands_white
loop-rest-preserved-then-stands_white c =
    let rest = c.loop-rest.rest.now in
    let left = c.after_byte-rest.result.now in
    let white : stands_white c.loop-rest.mode rest ≡ true = rw (← c.as_bytes-bytes.ensures.value) (sym c.stands_white.ensures ∙ c.if-stands_white.true) in
    let is : left ≡ drop 1 rest = c.after_byte-rest.ensures in
    let s : Steps rest left = rw is (white_steps c.loop-rest.mode rest white) in
    record {
      reading =
          ap (λ l. with_front c.loop-rest.tokens (front_from c.spaced-mode.result 0 (c.loop-rest.at + 1) l)) is
          ∙ ap (λ m. with_front c.loop-rest.tokens (front_from m 0 (c.loop-rest.at + 1) (drop 1 rest))) c.spaced-mode.ensures
          ∙ ap (λ o. with_front c.loop-rest.tokens o) (sym (front_white c.loop-rest.mode c.loop-rest.at rest white)) ∙ c.loop-rest.invariant.reading;
      clear = steps_clear c.loop-rest.clear rest left s c.loop-rest.invariant.clear;
      place = let h = falls rest left s in omega (arith, h, ap length is, length-drop 1 rest);
      text = c.after_byte-rest.utf8;
    }

pub overflow_sub-width : goal.overflow_sub-width
overflow_sub-width c =
    let rest = c.loop-rest.rest.now in
    let f = found_of c.in-Some.found in
    let is : token c.loop-rest.mode rest ≡ Some f = rw (← c.as_bytes-bytes.ensures.value) (sym c.in-Some.ensures.value) in
    let h = falls rest f.1 (token_steps c.loop-rest.mode rest f is) in
    omega (arith, h)

pub split_at-requires : goal.split_at-requires
split_at-requires c =
    let rest = c.loop-rest.rest.now in
    let f = found_of c.in-Some.found in
    let is : token c.loop-rest.mode rest ≡ Some f = rw (← c.as_bytes-bytes.ensures.value) (sym c.in-Some.ensures.value) in
    token_border rest f.1 c.loop-rest.invariant.text (token_steps c.loop-rest.mode rest f is)

pub loop-rest-smaller : goal.loop-rest-smaller
loop-rest-smaller c =
    let rest = c.loop-rest.rest.now in
    let f = found_of c.in-Some.found in
    let is : token c.loop-rest.mode rest ≡ Some f = rw (← c.as_bytes-bytes.ensures.value) (sym c.in-Some.ensures.value) in
    let s = token_steps c.loop-rest.mode rest f is in
    let left : c.split_at.result.1.now ≡ f.1 = c.split_at.ensures.back ∙ token_left rest f.1 s in
    rw left (falls rest f.1 s)

pub loop-rest-preserved : goal.loop-rest-preserved
loop-rest-preserved c =
    let rest = c.loop-rest.rest.now in
    let f = found_of c.in-Some.found in
    let is : token c.loop-rest.mode rest ≡ Some f = rw (← c.as_bytes-bytes.ensures.value) (sym c.in-Some.ensures.value) in
    let s = token_steps c.loop-rest.mode rest f is in
    let left : c.split_at.result.1.now ≡ f.1 = c.split_at.ensures.back ∙ token_left rest f.1 s in
    let tight : stands_white c.loop-rest.mode rest ≡ false = rw (← c.as_bytes-bytes.ensures.value) (sym c.stands_white.ensures ∙ c.if-stands_white.false) in
    let same = token_same c.loop-rest.at rest c.split_at.result.0.now f c.split_at.ensures.front c.split_at.ensures.front_len in
    let added = c.in_ok-add-in-Some.ensures.ok ∙ ap (λ t. c.loop-rest.tokens ++ t ∷ []) same in
    let clear : IsClear c.token.new.clear rest = rw (← c.as_bytes-bytes.ensures.value) c.in-Some.ensures.clear in
    record {
      reading =
          ap (λ l. with_front c.add.new.tokens (front_from f.2 0 (c.loop-rest.at + width rest f) l)) left
          ∙ front_more c.loop-rest.mode c.loop-rest.at rest f c.loop-rest.tokens c.add.new.tokens _ tight is s c.loop-rest.invariant.reading added;
      clear = rw left (steps_clear c.token.new.clear rest f.1 s clear);
      place = let h = falls rest f.1 s in omega (arith, h, c.split_at.ensures.back_len);
      text = rw left (s.3 c.loop-rest.invariant.text);
    }
