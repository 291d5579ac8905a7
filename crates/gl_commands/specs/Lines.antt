-- What was written of a line.
use Rattle.std.specs.Prelude.{◌≡◌, ◌<◌, ◌≤◌, ◌⊎◌, ℕ, List, ◌++◌, Bool, true, false, Option}
use Rattle.gl_base.specs.Texts.{Text, bytes_of}
use Rattle.gl_base.specs.Taking.{Takes, TakesFront}
use Rattle.gl_outside.specs.Sink.{last_count}

-- the sink had a cause not to take all: its faults or its wants rose, or one of these counts stood at its last value
abbrev pub IsLoud : ℕ → ℕ → ℕ → ℕ → Type 0
IsLoud faults faults_now wants wants_now = (faults < faults_now) ⊎ ((wants < wants_now) ⊎ ((faults ≡ last_count) ⊎ (wants ≡ last_count)))

-- it took the text, or where not all was taken a front of it
abbrev pub Taken : Bool → Option (List ℕ) → Option (List ℕ) → Text → Type 0
Taken true start now text = Takes start now (bytes_of text)
Taken false start now text = TakesFront start now (bytes_of text)

-- A text is said after what was said before: `whole` tells whether all before was taken, `still` whether all is taken now.
pub record SaysOn (whole still : Bool) (old new : Option (List ℕ)) (faults faults_now wants wants_now : ℕ) (text : Text) : Type 0 where
  pub taken : (start : Option (List ℕ)) (before : Text) → Taken whole start old before → Taken still start new (before ++ text)
  pub loud : still ≡ false → (whole ≡ false) ⊎ IsLoud faults faults_now wants wants_now
  pub faults_stay : faults ≤ faults_now
  pub wants_stay : wants ≤ wants_now

-- A line is said: a front of it is taken, and all of it where the sink had no cause not to take it.
pub record Says (old new : Option (List ℕ)) (faults faults_now wants wants_now : ℕ) (line : Text) : Type 0 where
  pub front : TakesFront old new (bytes_of line)
  pub whole : (IsLoud faults faults_now wants wants_now → ⊥) → Takes old new (bytes_of line)
