use denote.Text.{Utf8}
use denote.Shadow.{shadow}
use Rattle.std.proofs.Common.{◌≡◌, ◌+◌, length}
use Rattle.gl_lex.specs.Clear.{IsClear}
use Rattle.gl_lex.specs.Front.{front_from, with_front}
use Rattle.gl_lex.proofs.lexer.read.Given as goal

abbrev pub invariant-loop-rest : goal.invariant-loop-rest
invariant-loop-rest l = record {
  reading : with_front l.tokens (front_from l.mode 0 l.at l.rest) ≡ front_from l.fn.mode 0 0 l.fn.text;
  clear : IsClear l.clear l.rest;
  place : l.at + length l.rest ≡ length l.fn.text;
  text : shadow (Utf8 l.rest);
}

abbrev pub decreases-loop-rest : goal.decreases-loop-rest
decreases-loop-rest l = length l.rest
