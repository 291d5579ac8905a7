-- Blocks that are yielded.
use Rattle.std.proofs.Common.{◌≡◌, ℕ, suc, List, [], ◌∷◌, ◌++◌, length, Option, Some, None, option_map, refl, sym, ◌∙◌, ap, subst}
use Rattle.std.proofs.lemmas.List.{length-map}
use Rattle.std.specs.declared.vec.Vec.{Vec}
use Rattle.std.specs.declared.alloc.Global.{Global}
use Rattle.gl_base.specs.Texts.{Text}
use Rattle.gl_base.specs.Names.{named}
use Rattle.gl_arena.specs.Id.{Id}
use Rattle.gl_meaning.specs.Path.{slot, Path}
use Rattle.gl_meaning.specs.View.{path_view}
use Rattle.gl_meaning.specs.declared.path.Path.{Path as CodePath}
use Rattle.gl_machine.specs.Code.{Code as PlainCode, yield_code, no_codes}
use Rattle.gl_machine.specs.Mach.{Back as PlainBack, Mach, mach, Pushed as PlainPushed, Run, going, fresh, next_at, in_block}
use Rattle.gl_machine.specs.Sight.{Sight, Passing, not_passed, passing, passing_in}
use Rattle.gl_machine.specs.Step as s
use Rattle.gl_vm.specs.View.{Tables, stamps}
use Rattle.gl_code.specs.View.{refs_made, seen_sight}
use Rattle.gl_code.specs.CodeView.{seen_code, seen_codes}
use Rattle.gl_append.specs.MachineView.{seen_stack, seen_back, seen_here, mach_by}
use Rattle.gl_append.specs.Steps.{Moves, Changes, Begins, LeavesFor}
use Rattle.gl_code.specs.Written.{block_of, seen_written}
use Rattle.gl_append.specs.Blocks.{block_entered}
use Rattle.gl_code.specs.declared.written.Written.{Written}
use Rattle.gl_code.specs.declared.code.Code.{Code}
use Rattle.gl_code.specs.declared.code.Codes.{Codes}
use Rattle.gl_append.specs.declared.machine.Back.{Back}
use Rattle.gl_append.specs.declared.machine.Kind.TheVariants as kind
use Rattle.gl_append.specs.declared.machine.Pushed.{Pushed}
use Rattle.gl_append.specs.declared.machine.Machine.{Machine}

abbrev yield_at : Text → List ℕ → Mach → Option (ℕ × Sight) → Run
yield_at x rs m None = s.show (yield_code x m.made [] no_codes, m.state) m
yield_at x rs m (Some b) = s.enter x rs m b.1 b.0

at_slot : (x : Text) (rs : List ℕ) (m : Mach) (w : Sight) (o : Option ℕ) → s.yield_slot x rs m w o ≡ yield_at x rs m (option_map (λ start. (start, w)) o)
at_slot x rs m w None = refl
at_slot x rs m w (Some start) = refl

at_block : (x : Text) (rs : List ℕ) (m : Mach) (w : Passing) → s.yield_to x rs m w ≡ yield_at x rs m (block_of x w)
at_block x rs m not_passed = refl
at_block x rs m (passing k parts slots w) = at_slot x rs m w (named x slots)

-- what was found is done, with the last ones of the stack
pub yielded : (count : ℕ) (name : Text) (old new : Machine) (stack : Vec Pushed Global) (pending : List Id) (o : Option Written) → seen_stack stack.items ≡ s.lower count (seen_stack old.stack.items)
    → stamps pending ≡ s.positional (s.upper count (seen_stack old.stack.items)) → ((n : Tables) → option_map (seen_written n) o ≡ block_of name (passing_in (seen_sight n old.sight)))
    → Moves (λ n m. yield_at name (stamps pending) m (option_map (seen_written n) o)) (record old { stack = stack }) new → Moves (λ n. s.do_yield count name) old new
yielded count name old new stack pending o e1 e2 found x n st =
    let m = mach_by n st old in
    let g : List PlainPushed → List ℕ → Option (ℕ × Sight) → Run = λ y rs b. yield_at name rs (record m { stack = y }) b in
    let low = s.lower count (seen_stack old.stack.items) in
    let up = s.positional (s.upper count (seen_stack old.stack.items)) in
    at_block name up (record m { stack = low }) (passing_in m.rest.sight)
    ∙ (ap (λ b. g low up b) (sym (found n)) ∙ (ap (λ rs. g low rs (option_map (seen_written n) o)) (sym e2) ∙ (ap (λ y. g y (stamps pending) (option_map (seen_written n) o)) (sym e1) ∙ x n st)))

pub nothing_yielded : (count : ℕ) (name : Text) (old new : Machine) (stack : Vec Pushed Global) (pending : List Id) (o : Option Written) → seen_stack stack.items ≡ s.lower count (seen_stack old.stack.items)
    → stamps pending ≡ s.positional (s.upper count (seen_stack old.stack.items)) → ((n : Tables) → option_map (seen_written n) o ≡ block_of name (passing_in (seen_sight n old.sight))) → o ≡ None
    → Moves (λ n m. s.show (yield_code name m.made [] no_codes, m.state) m) (record old { stack = stack }) new → Moves (λ n. s.do_yield count name) old new
nothing_yielded count name old new stack pending o e1 e2 found is x =
    yielded count name old new stack pending o e1 e2 found (λ n st. ap (λ q. yield_at name (stamps pending) (mach_by n st (record old { stack = stack })) (option_map (seen_written n) q)) is ∙ x n st)

pub block_yielded : (count : ℕ) (name : Text) (old new : Machine) (stack : Vec Pushed Global) (pending : List Id) (o : Option Written) (w : Written) → seen_stack stack.items ≡ s.lower count (seen_stack old.stack.items)
    → stamps pending ≡ s.positional (s.upper count (seen_stack old.stack.items)) → ((n : Tables) → option_map (seen_written n) o ≡ block_of name (passing_in (seen_sight n old.sight))) → o ≡ Some w
    → Moves (λ n m. s.enter name (stamps pending) m (seen_sight n w.sight) w.start) (record old { stack = stack }) new → Moves (λ n. s.do_yield count name) old new
block_yielded count name old new stack pending o w e1 e2 found is x =
    yielded count name old new stack pending o e1 e2 found (λ n st. ap (λ q. yield_at name (stamps pending) (mach_by n st (record old { stack = stack })) (option_map (seen_written n) q)) is ∙ x n st)

pub entered_at : (name name' : Text) (old new : Machine) (pending : List Id) (w : Written) (path : CodePath) → name' ≡ name → ((n : Tables) → path_view path ≡ slot name ∷ next_at (seen_here n old.here))
    → Changes (λ n. block_entered (path_view path) name' (stamps pending) (seen_sight n w.sight) w.start) old new → Moves (λ n m. s.enter name (stamps pending) m (seen_sight n w.sight) w.start) old new
entered_at name name' old new pending w path e p l n st =
    let g : Path → Text → Run = λ q x. going (block_entered q x (stamps pending) (seen_sight n w.sight) w.start (mach_by n st old)) in
    ap (λ q. g q name) (sym (p n)) ∙ (ap (λ x. g (path_view path) x) (sym e) ∙ ap going (l n st))

begun : (old new : Machine) (back : Back) (w : Written) (pending none made : List Id) (path : CodePath) (name : Text) (locals : ℕ)
    → ((n : Tables) → seen_back n back ≡ record { getter = old.getter; pc = suc old.pc; sight = seen_sight n old.sight; pending = stamps old.pending }) → none ≡ [] → locals ≡ length w.sight.level.locals → made ≡ old.made
    → Begins (record old { getter = None; pc = w.start; sight = w.sight; pending = pending; made = none }) new path (kind.Block back name made locals)
    → Changes (λ n. block_entered (path_view path) name (stamps pending) (seen_sight n w.sight) w.start) old new
begun old new back w pending none made path name locals l e1 e2 e3 b n st =
    let m = mach_by n st old in
    let way : PlainBack = record { getter = old.getter; pc = suc old.pc; sight = seen_sight n old.sight; pending = stamps old.pending } in
    let g : List Id → PlainBack → List Id → ℕ → Mach
    = λ x y z k. mach m.state m.stack (refs_made x) w.start (record m.rest {
      getter = None;
      sight = seen_sight n w.sight;
      pending = stamps pending;
      here = fresh (path_view path);
      frames = m.rest.frames ++ record { here = m.rest.here; kind = in_block y name (refs_made z) k } ∷ [];
    }) in
    sym (b n st ∙ (ap (λ x. g x (seen_back n back) made locals) e1 ∙ (ap (λ y. g [] y made locals) (l n) ∙ (ap (λ z. g [] way z locals) e3
    ∙ ap (λ k. g [] way old.made k) (e2 ∙ sym (length-map w.sight.level.locals (λ e. (e.0, e.1.1))))))))

pub block_begun : (old adv new : Machine) (back : Back) (w : Written) (pending none made : List Id) (path : CodePath) (name : Text) (locals : ℕ)
    → LeavesFor old adv back w.sight → none ≡ [] → locals ≡ length w.sight.level.locals → made ≡ adv.made
    → Begins (record adv { getter = None; pc = w.start; pending = pending; made = none }) new path (kind.Block back name made locals)
    → Changes (λ n. block_entered (path_view path) name (stamps pending) (seen_sight n w.sight) w.start) old new
block_begun old adv new back w pending none made path name locals l e1 e2 =
    subst (λ (a : Machine). made ≡ a.made → Begins (record a { getter = None; pc = w.start; pending = pending; made = none }) new path (kind.Block back name made locals)
    → Changes (λ n. block_entered (path_view path) name (stamps pending) (seen_sight n w.sight) w.start) old new) (sym l.is)
    (begun old new back w pending none made path name locals l.goes_back e1 e2)

-- nothing is shown where no block was found
pub nothing_shown : (name : Text) (old new : Machine) (name' : Text) (none made params : List Id) (body : Codes) (code : Code) → name' ≡ name → made ≡ old.made → stamps params ≡ [] → ((n : Tables) → seen_codes n body ≡ no_codes)
    → ((n : Tables) → seen_code n code ≡ yield_code name' (refs_made made) (stamps params) (seen_codes n body))
    → Moves (λ n m. s.show (seen_code n code, m.state) m) (record old { made = none }) new → Moves (λ n m. s.show (yield_code name m.made [] no_codes, m.state) m) old new
nothing_shown name old new name' none made params body code e1 e2 e3 e4 e5 x n st =
    let m = mach_by n st old in
    let g : PlainCode → Run = λ k. s.show (k, st) m in
    ap (λ y. g (yield_code y m.made [] no_codes)) (sym e1)
    ∙ (ap (λ is. g (yield_code name' (refs_made is) [] no_codes)) (sym e2)
    ∙ (ap (λ rs. g (yield_code name' (refs_made made) rs no_codes)) (sym e3)
    ∙ (ap (λ b. g (yield_code name' (refs_made made) (stamps params) b)) (sym (e4 n)) ∙ (ap g (sym (e5 n)) ∙ x n st))))
