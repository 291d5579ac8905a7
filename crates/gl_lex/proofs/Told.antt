-- What the answer of the lexer tells.
use Rattle.std.proofs.Common.{◌≡◌, ℕ, List, Option, Result, Ok, Err, sym, ap, subst, ◌∙◌}
use Rattle.std.specs.Prelude.{IfOk}
use Rattle.std.specs.Str.{IsUtf8}
use Rattle.gl_base.specs.Answers.{Gives}
use Rattle.gl_ast.specs.Spans.{Spans}
use Rattle.gl_ast.specs.TokenReading.{read_from}
use Rattle.gl_ast.specs.Tokens.{Reads}
use Rattle.gl_ast.specs.declared.mode.Mode.{Mode}
use Rattle.gl_ast.specs.declared.token.Token.{Token}
use Rattle.gl_ast.proofs.Readings.{reading_read, read_reading}
use Rattle.gl_ast.proofs.Spanned.{spans_from}
use Rattle.gl_lex.specs.Fault.{Fails, Tells}
use Rattle.gl_lex.specs.Front.{Front, front_from, all_of}
use Rattle.gl_lex.specs.Stops.{GivesFront}
use Rattle.gl_lex.specs.declared.fault.LexFault.{LexFault}
use Rattle.gl_lex.specs.declared.fault.LexFault.TheVariants as v
use Rattle.gl_lex.proofs.Fronted.{all_read}
use Rattle.gl_lex.proofs.Stopping.{told_all}

pub told : (mode : Mode) (bs : List ℕ) (r : Result (List Token) LexFault) → Gives Fails (λ list. list) r (read_from mode 0 0 bs) → Tells (Reads mode 0 bs) r
told mode bs (Ok list) e = read_reading mode 0 bs list e
told mode bs (Err (v.NoToken offset)) e = λ list is. let h = sym e ∙ reading_read mode 0 bs list is in cc
told mode bs (Err v.Memory) e = tt

pub told_spans : (mode : Mode) (bs : List ℕ) (r : Result (List Token) LexFault) → IsUtf8 bs → Gives Fails (λ list. list) r (read_from mode 0 0 bs) → IfOk r (Spans bs 0)
told_spans mode bs (Ok list) u e = spans_from mode bs list u e
told_spans mode bs (Err fault) u e = tt

-- the answer tells the whole front
pub told_whole : (mode : Mode) (bs : List ℕ) (r : Result (List Token) LexFault) (front : Front) → front ≡ front_from mode 0 0 bs → GivesFront front r → Gives Fails (λ list. list) r (read_from mode 0 0 bs)
told_whole mode bs r front is e = subst (λ (o : Option (List Token)). Gives Fails (λ list. list) r o) (ap all_of is ∙ all_read mode 0 0 bs) (told_all r front e)
