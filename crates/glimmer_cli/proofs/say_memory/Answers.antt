use Rattle.std.proofs.Common.{inl, ◌≡◌, ◌<◌, ◌∙◌, sym, refl, rules}
use Rattle.std.proofs.lemmas.Str.{encodes-IsAscii}
use Rattle.gl_base.specs.Texts.{bytes_of}
use Rattle.gl_base.specs.Taking.{TakesFront}
use Rattle.gl_base.proofs.Chars.{ascii}
use Rattle.gl_commands.specs.Run.{memory_line}
use Rattle.gl_commands.proofs.Saying.{says_line, says_piece, says_front}
use Rattle.glimmer_cli.proofs.say_memory.Goals as goal

pub returns-in-Ok : goal.returns-in-Ok
returns-in-Ok g c =
    let raw : bytes_of memory_line ≡ c.as_bytes.result.now = encodes-IsAscii memory_line (ascii memory_line refl) ∙ sym c.as_bytes.ensures.value in
    says_line _ _ _ _ _ _ _ memory_line (says_piece _ _ _ _ _ _ memory_line (rw raw c.in-Ok.ensures.whole) c.put.ensures.faults_stay c.put.ensures.wants_stay)

pub returns-in-Err-Failed : goal.returns-in-Err-Failed
returns-in-Err-Failed g c =
    let raw : bytes_of memory_line ≡ c.as_bytes.result.now = encodes-IsAscii memory_line (ascii memory_line refl) ∙ sym c.as_bytes.ensures.value in
    let front : TakesFront (g.E.Sink.took c.args.err.now) (g.E.Sink.took c.put.new.self) c.as_bytes.result.now = search rules in
    let rose : g.E.Sink.faults c.args.err.now < g.E.Sink.faults c.put.new.self = search rules in
    says_line _ _ _ _ _ _ _ memory_line (says_front _ _ _ _ _ _ memory_line (rw raw front) (inl rose) c.put.ensures.faults_stay c.put.ensures.wants_stay)
