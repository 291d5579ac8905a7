-- Why an application or its script is not loaded.
use Rattle.std.specs.Prelude.{ℕ, Result, Ok, Err}
use Rattle.gl_base.specs.Texts.{Text}
use Rattle.gl_meaning.specs.Known.{Kind}

-- what is the matter with a file
pub data Cause : Type 0 where
  absent : Cause
  too_long : Cause
  not_json : Cause
  -- the pointer of the first place that is not of the format
  bad_shape : Text → Cause
  -- the pointer of the first text that spells no expression
  bad_expression : Text → Cause
  -- the place at which a template leaves the grammar
  not_in_grammar : ℕ → Cause
  -- what was to have the name, and the name, which is not known
  unknown_name : Kind → Text → Cause
  -- a class and the getter of it that reaches itself
  getter_cycle : Text → Text → Cause
  -- the place of an event that sets what is no field, and the name
  unknown_field : ℕ → Text → Cause

-- a cause with the file
pub record Refusal : Type 0 where
  pub file : Text
  pub cause : Cause

-- what comes after, where nothing was refused before
infixl 10 ◌>>=◌
abbrev pub ◌>>=◌ : {A B E : Type 0} → Result A E → (A → Result B E) → Result B E
(Ok x) >>= f = f x
(Err e) >>= f = Err e

-- what a file gives, with its name where it is refused
abbrev pub in_file : {A : Type 0} → Text → Result A Cause → Result A Refusal
in_file name (Ok x) = Ok x
in_file name (Err cause) = Err (record { file = name; cause = cause })
