-- What a play left.
use Rattle.std.specs.Prelude.{◌≡◌, ℕ, List, Option, Result, Ok, Err}
use Rattle.gl_base.specs.Texts.{Text, bytes_of, joined}
use Rattle.gl_base.specs.Taking.{Takes, TakesFront, TakesSome}
use Rattle.gl_commands.specs.Output.{Output, too_deep}
use Rattle.gl_commands.specs.declared.fault.PlayFault.{PlayFault}
use Rattle.gl_commands.specs.declared.fault.PlayFault.TheVariants as v
use Rattle.gl_commands.specs.declared.status.Status.TheVariants as status

-- what a put that failed leaves: a front of the text, or nothing
abbrev pub PutFails : PlayFault → Option (List ℕ) → Option (List ℕ) → Text → Type 0
PutFails (v.NestingLimit turn limit) old new text = ⊥
PutFails v.WriteFault old new text = TakesFront old new (bytes_of text)
PutFails v.Memory old new text = new ≡ old

-- what one put leaves: the whole text, or less
abbrev pub Puts : {X : Type 0} → Result X PlayFault → Option (List ℕ) → Option (List ℕ) → Text → Type 0
Puts (Ok x) old new text = Takes old new (bytes_of text)
Puts (Err f) old new text = PutFails f old new text

-- What a play that does not go to its end leaves: all texts of the output, where it came to the turn that components nest too deep
-- for; a front of them, where a write failed; some of the first, each whole, where memory was wanting.
abbrev pub PlayFails : PlayFault → Option (List ℕ) → Option (List ℕ) → Output → Type 0
PlayFails (v.NestingLimit turn limit) old new o =
    (o.status ≡ status.NestingLimit) × (o.message ≡ too_deep turn limit) × Takes old new (bytes_of (joined o.texts))
PlayFails v.WriteFault old new o = TakesFront old new (bytes_of (joined o.texts))
PlayFails v.Memory old new o = TakesSome old new o.texts

-- what a play leaves: all texts of the output, where it goes to its end
abbrev pub Plays : {X : Type 0} → Result X PlayFault → Option (List ℕ) → Option (List ℕ) → Output → Type 0
Plays (Ok x) old new o = (o.status ≡ status.Done) × Takes old new (bytes_of (joined o.texts))
Plays (Err f) old new o = PlayFails f old new o
