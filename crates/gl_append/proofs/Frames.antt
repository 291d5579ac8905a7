-- The last frame, where no call is under way.
use Rattle.std.proofs.Common.{◌≡◌, List, [], ◌∷◌, ◌++◌, Some, sym, ◌∙◌, ap, append-nil}
use Rattle.gl_machine.specs.Step.{popped}
use Rattle.gl_vm.specs.View.{Tables}
use Rattle.gl_append.specs.MachineView.{seen_frame, seen_frames, seen_calls, seen_here}
use Rattle.gl_append.specs.declared.machine.Call.{Call}
use Rattle.gl_append.specs.declared.machine.Frame.{Frame}
use Rattle.gl_append.specs.declared.machine.Here.{Here}
use Rattle.gl_append.proofs.Stacks.{popped_from}

pub no_calls : (n : Tables) (h : Here) (cs : List Call) (fs : List Frame) → cs ≡ [] → seen_frames n fs ++ seen_calls n (seen_here n h) cs ≡ seen_frames n fs
no_calls n h cs fs e = ap (λ xs. seen_frames n fs ++ seen_calls n (seen_here n h) xs) e ∙ append-nil (seen_frames n fs)

pub popped_body : (n : Tables) (h : Here) (cs : List Call) (fs gs : List Frame) (f : Frame) → cs ≡ [] → fs ≡ gs ++ f ∷ []
    → popped (seen_frames n fs ++ seen_calls n (seen_here n h) cs) ≡ Some (seen_frames n gs ++ seen_calls n (seen_here n h) cs, seen_frame n f)
popped_body n h cs fs gs f e g = ap popped (no_calls n h cs fs e) ∙ (popped_from (seen_frame n) fs gs f g ∙ ap (λ xs. Some (xs, seen_frame n f)) (sym (no_calls n h cs gs e)))
