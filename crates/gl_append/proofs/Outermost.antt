-- Whether a frame or a call is under way.
use Rattle.std.proofs.Common.{◌≡◌, ℕ, true, false, List, [], ◌∷◌, ◌++◌, Option, Some, None, is_none, length, refl, ◌∙◌, ap, arith}
use Rattle.gl_machine.specs.Mach.{Frame as PlainFrame, Mach, finished, go}
use Rattle.gl_machine.specs.Step as s
use Rattle.gl_vm.specs.View.{Tables}
use Rattle.gl_append.specs.MachineView.{seen_frames, seen_calls, seen_here}
use Rattle.gl_append.specs.declared.machine.Call.{Call}
use Rattle.gl_append.specs.declared.machine.Frame.{Frame}
use Rattle.gl_append.specs.declared.machine.Here.{Here}

pub none_of : {A : Type 0} (xs : List A) → length xs ≡ 0 → xs ≡ []
none_of [] e = refl
none_of (x ∷ xs) e = absurd (omega (arith, e))

pub none_left : (n : Tables) (h : Here) (fs : List Frame) (cs : List Call) → fs ≡ [] → cs ≡ [] → is_none (s.popped (seen_frames n fs ++ seen_calls n (seen_here n h) cs)) ≡ true
none_left n h fs cs e d = ap (λ xs. is_none (s.popped (seen_frames n xs ++ seen_calls n (seen_here n h) cs))) e ∙ ap (λ ys. is_none (s.popped (seen_calls n (seen_here n h) ys))) d

pub some_left : (n : Tables) (h : Here) (fs : List Frame) (cs : List Call) → (fs ≡ [] → cs ≡ [] → ⊥) → is_none (s.popped (seen_frames n fs ++ seen_calls n (seen_here n h) cs)) ≡ false
some_left n h fs cs = by_frames fs cs
  where
    by_frames : (fs : List Frame) (cs : List Call) → (fs ≡ [] → cs ≡ [] → ⊥) → is_none (s.popped (seen_frames n fs ++ seen_calls n (seen_here n h) cs)) ≡ false
    by_frames (f ∷ fs) cs = λ no. refl
    by_frames [] (c ∷ cs) = λ no. refl
    by_frames [] [] = λ no. absurd (no refl refl)

none_is : {A : Type 0} (o : Option A) → is_none o ≡ true → o ≡ None
none_is None e = refl
none_is (Some x) e = let no : false ≡ true = e in absurd (cc)

pub over : (m : Mach) (b : ℕ) (o : Option (List PlainFrame × PlainFrame)) → is_none o ≡ true → s.else_at m b o ≡ finished m
over m b o e = ap (λ x. s.else_at m b x) (none_is o e)

pub passed_over : (m : Mach) (b : ℕ) (o : Option (List PlainFrame × PlainFrame)) → is_none o ≡ false → s.else_at m b o ≡ go m.state m.stack m.made b m.rest
passed_over m b None e = let no : true ≡ false = e in absurd (cc)
passed_over m b (Some x) e = refl
