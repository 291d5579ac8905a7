-- Yielded blocks and components that end.
use Rattle.std.proofs.Common.{◌≡◌, ℕ, suc, List, [], ◌∷◌, drop, Some, sym, ◌∙◌, ap}
use Rattle.std.specs.declared.rc.Rc.{Rc}
use Rattle.std.specs.declared.alloc.Global.{Global}
use Rattle.gl_base.specs.Texts.{Text}
use Rattle.gl_arena.specs.Id.{Id}
use Rattle.gl_plain.specs.Ids.{block_id}
use Rattle.gl_machine.specs.Code as c
use Rattle.gl_machine.specs.RenewCode.{refs_in}
use Rattle.gl_machine.specs.Mach.{Run, going, all_of}
use Rattle.gl_machine.specs.Step as s
use Rattle.gl_vm.specs.View.{Tables, stamps, name_stamps}
use Rattle.gl_code.specs.View.{refs_made, seen_locals, seen_owner}
use Rattle.gl_code.specs.CodeView.{component_seen, seen_code, seen_codes}
use Rattle.gl_append.specs.MachineView.{seen_back, seen_here, seen_kind, mach_by}
use Rattle.gl_append.specs.Blocks.{code_added}
use Rattle.gl_append.specs.Steps.{Moves, MovesFrame, Changes, GoesBack, Ends}
use Rattle.gl_code.specs.declared.code.Code.{Code}
use Rattle.gl_code.specs.declared.code.Codes.{Codes}
use Rattle.gl_code.specs.declared.sight.Owner.{Owner}
use Rattle.gl_append.specs.declared.machine.Back.{Back}
use Rattle.gl_append.specs.declared.machine.Frame.{Frame}
use Rattle.gl_append.specs.declared.machine.Kind.TheVariants as kind
use Rattle.gl_append.specs.declared.machine.Machine.{Machine}

pub block_ended : (old mid new : Machine) (x : Frame) (back : Back) (name : Text) (made params : List Id) (locals : ℕ) (body : Codes) (code : Code) → x.kind ≡ kind.Block back name made locals → old.calls.items ≡ []
    → stamps params ≡ refs_in (drop locals (seen_locals old.sight.level.locals)) → ((n : Tables) → seen_code n code ≡ c.yield_code name (refs_made made) (stamps params) (seen_codes n body))
    → Ends old mid x.here body → Moves (λ n m. s.return m.rest.frames m.rest.here (seen_back n back) m.rest.left (seen_code n code) m) mid new → MovesFrame (λ n. s.do_end_block) old x new
block_ended old mid new x back name made params locals body code e none ps is ends returned n st =
    let m = mach_by n st old in
    let g : c.Code → Run = λ k. s.return m.rest.frames (seen_here n x.here) (seen_back n back) m.rest.left k m in
    ap (λ k. s.do_end_block m m.rest.frames (seen_here n x.here) (seen_kind n k)) e
    ∙ (ap (λ r. g (c.yield_code name (refs_made made) r (all_of (seen_here n old.here).codes))) (sym ps)
    ∙ (ap (λ b. g (c.yield_code name (refs_made made) (stamps params) b)) (sym (ends.0 n))
    ∙ (ap g (sym (is n))
    ∙ (ap (λ y. s.return y.rest.frames y.rest.here (seen_back n back) y.rest.left (seen_code n code) y) (sym (ends.1 none n st)) ∙ returned n st))))

pub component_ended : (old mid new : Machine) (x : Frame) (back : Back) (owner : Rc Owner Global) (block : Id) (made : List Id) (args : Rc (List (Text × Id)) Global) (left : ℕ) (body : Codes) (code : Code)
    → x.kind ≡ kind.Component back owner block made args → old.calls.items ≡ [] → left ≡ suc old.left
    → ((n : Tables) → seen_code n code ≡ component_seen (seen_owner n owner.value) (block_id block.1 ∷ refs_made made) (refs_made owner.value.cells) (name_stamps args.value) (Some block.1) (seen_codes n body))
    → Ends (record old { left = left }) mid x.here body → Moves (λ n m. s.return m.rest.frames m.rest.here (seen_back n back) m.rest.left (seen_code n code) m) mid new → MovesFrame (λ n. s.do_done) old x new
component_ended old mid new x back owner block made args left body code e none up is ends returned n st =
    let m = mach_by n st old in
    let g : ℕ → c.Code → Run = λ l k. s.return m.rest.frames (seen_here n x.here) (seen_back n back) l k m in
    let h : c.Codes → c.Code = λ b. component_seen (seen_owner n owner.value) (block_id block.1 ∷ refs_made made) (refs_made owner.value.cells) (name_stamps args.value) (Some block.1) b in
    ap (λ k. s.do_done m m.rest.frames (seen_here n x.here) (seen_kind n k)) e
    ∙ (ap (λ l. g l (h (all_of (seen_here n old.here).codes))) (sym up)
    ∙ (ap (λ b. g left (h b)) (sym (ends.0 n))
    ∙ (ap (g left) (sym (is n))
    ∙ (ap (λ y. s.return y.rest.frames y.rest.here (seen_back n back) y.rest.left (seen_code n code) y) (sym (ends.1 none n st)) ∙ returned n st))))

-- where the way back leads, with what was rendered
pub returned : (old mid new : Machine) (back : Back) (code : Code) → GoesBack old mid back → Changes (λ n. code_added (seen_code n code)) mid new
    → Moves (λ n m. s.return m.rest.frames m.rest.here (seen_back n back) m.rest.left (seen_code n code) m) old new
returned old mid new back code g x n st =
    ap (λ (y : Machine). going (code_added (seen_code n code) (mach_by n st y))) (sym g.is) ∙ ap going (x n st)
