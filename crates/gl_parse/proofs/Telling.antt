-- What a fault tells.
use Rattle.std.proofs.Common.{◌≡◌, ℕ, Option, Some, Result, Ok, Err, sym, subst, ◌∙◌}
use Rattle.std.specs.Prelude.{IfErr}
use Rattle.gl_base.specs.Answers.{Gives}
use Rattle.gl_exprs.specs.Fault.{Names, Refuses, Tells}
use Rattle.gl_exprs.specs.declared.fault.ParseFault.{ParseFault}
use Rattle.gl_exprs.specs.declared.fault.ParseFault.TheVariants as v
use Rattle.gl_parse.specs.Place.{Answers}

pub told_fault : {X T : Type 0} (view : X → T) (IsSpelled : T → Type 0) (read : Option T) → ((tree : T) → IsSpelled tree → read ≡ Some tree) → (f : ParseFault) → Refuses f read → Tells view IsSpelled (Err f)
told_fault view IsSpelled read reads (v.NotInGrammar o) h = λ tree is. let r = sym h ∙ reads tree is in cc
told_fault view IsSpelled read reads v.Memory h = tt

pub told_read : {X T : Type 0} (view : X → T) (IsSpelled : T → Type 0) (read : Option T) → ((tree : T) → IsSpelled tree → read ≡ Some tree) → ((tree : T) → read ≡ Some tree → IsSpelled tree)
    → (r : Result X ParseFault) → Gives Refuses view r read → Tells view IsSpelled r
told_read view IsSpelled read reads is_read (Ok x) h = is_read (view x) h
told_read view IsSpelled read reads is_read (Err f) h = told_fault view IsSpelled read reads f h

-- and with the place all is told
pub told_answer : {X T : Type 0} (view : X → T) (IsSpelled : T → Type 0) (IsPlace : ℕ → Type 0) (place : ℕ) → IsPlace place → (r : Result X ParseFault) → Tells view IsSpelled r → IfErr r (Names place) → Answers view IsSpelled IsPlace r
told_answer view IsSpelled IsPlace place is (Ok x) h e = h
told_answer view IsSpelled IsPlace place is (Err (v.NotInGrammar offset)) h e = (h, subst IsPlace (sym e) is)
told_answer view IsSpelled IsPlace place is (Err v.Memory) h e = tt
