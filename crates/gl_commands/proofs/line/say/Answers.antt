use Rattle.std.proofs.Common.{inl, ◌≡◌, ◌<◌, ◌∙◌, sym, rules}
use Rattle.std.specs.Str.{chars}
use Rattle.std.proofs.lemmas.Str.{encodes-chars}
use Rattle.gl_base.specs.Texts.{bytes_of}
use Rattle.gl_base.specs.Taking.{TakesFront}
use Rattle.gl_outside.specs.Sink.{Wanted}
use Rattle.gl_commands.proofs.Saying.{says_no_more, says_piece, says_front, says_wanted}
use Rattle.gl_commands.proofs.line.say.Goals as goal

pub returns-then-not-whole : goal.returns-then-not-whole
returns-then-not-whole g c = rw c.if-not-whole.true (says_no_more (g.E.Sink.took c.args.err.now) (g.E.Sink.faults c.args.err.now) (g.E.Sink.wants c.args.err.now) (chars c.args.piece.now))

pub returns-in-Ok : goal.returns-in-Ok
returns-in-Ok g c =
    let piece = c.args.piece.now in
    let raw : bytes_of (chars piece) ≡ c.as_bytes.result.now = encodes-chars piece c.utf8.piece ∙ sym c.as_bytes.ensures.value in
    rw c.if-not-whole.false (says_piece _ _ _ _ _ _ (chars piece) (rw raw c.in-Ok.ensures.whole) c.put.ensures.faults_stay c.put.ensures.wants_stay)

pub returns-in-Err-Failed : goal.returns-in-Err-Failed
returns-in-Err-Failed g c =
    let piece = c.args.piece.now in
    let raw : bytes_of (chars piece) ≡ c.as_bytes.result.now = encodes-chars piece c.utf8.piece ∙ sym c.as_bytes.ensures.value in
    let front : TakesFront (g.E.Sink.took c.args.err.now) (g.E.Sink.took c.put.new.self) c.as_bytes.result.now = search rules in
    let rose : g.E.Sink.faults c.args.err.now < g.E.Sink.faults c.put.new.self = search rules in
    rw c.if-not-whole.false (says_front _ _ _ _ _ _ (chars piece) (rw raw front) (inl rose) c.put.ensures.faults_stay c.put.ensures.wants_stay)

pub returns-in-Err-Memory : goal.returns-in-Err-Memory
returns-in-Err-Memory g c =
    let piece = c.args.piece.now in
    let same : g.E.Sink.took c.put.new.self ≡ g.E.Sink.took c.args.err.now = search rules in
    let wanted : Wanted (g.E.Sink.faults c.args.err.now) (g.E.Sink.wants c.args.err.now) (g.E.Sink.wants c.put.new.self) = search rules in
    rw c.if-not-whole.false (says_wanted _ _ _ _ _ _ (chars piece) same wanted c.put.ensures.faults_stay c.put.ensures.wants_stay)
