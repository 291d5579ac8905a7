-- What was passed goes well where `...attributes` stands, by recursion over the chain of the scopes that wrote it.
use Rattle.std.proofs.Common.{ℕ, suc, List, [], ◌∷◌, ◌++◌, refl, sym, subst}
use Rattle.std.proofs.lemmas.List.{append-nil}
use Rattle.gl_program.specs.Program.{Stands}
use Rattle.gl_ops.specs.declared.op.Op.{Op}
use Rattle.gl_ops.specs.declared.op.Op.TheVariants as op
use Rattle.gl_meaning.specs.Eval.{Store}
use Rattle.gl_meaning.specs.Parts.{spread_in}
use Rattle.gl_plain.specs.Ids.{Id}
use Rattle.gl_plain.specs.State.{Names, Inst, MPassed, mnothing, mpassed, mscope, State}
use Rattle.gl_plain.specs.Naming.{Naming}
use Rattle.gl_plain.specs.Parts.{mpassed_parts}
use Rattle.gl_plain.specs.Tags.{bind_written_as}
use Rattle.gl_machine.specs.Sight.{Passing}
use Rattle.gl_machine.specs.Env.{Env, program_no}
use Rattle.gl_machine.specs.Placed.{EndsParts, Matches}
use Rattle.gl_machine.specs.Mach.{Pushed, Making, in_parts, Frame, Rest, mach, go}
use Rattle.gl_machine.specs.Step.{spread_to, Comes_as, here}
use Rattle.gl_machine.proofs.Runs.{on, at_op}
use Rattle.gl_machine.proofs.Stacks.{popped-last}
use Rattle.gl_machine.proofs.Sound.{Sound}
use Rattle.gl_machine.proofs.Getters.{room}
use Rattle.gl_machine.proofs.Tags.{with_parts, SpreadGoes, parts_come}

module _ (naming : Naming) (env : Env) (store : Store) (sound : Sound env) where
  -- behind the parts the machine comes back from them
  comes_back : (c : ℕ) (i : Inst) (a l : Names) (v : MPassed) (w : Passing) (rest : Rest) (pc : ℕ) (k : Making) (st : State) (stk : List Pushed) (made : List Id)
      (from next : ℕ) (o : Op) → Stands (program_no env c) from o next → EndsParts o
      → (let frame : Frame = record { here = rest.here; kind = in_parts (record { getter = rest.getter; pc = suc pc; sight = rest.sight; pending = rest.pending }) } in
      Comes_as naming env store (go st stk made from (room env c i a l v w rest.pending rest.here k rest.left (rest.frames ++ frame ∷ []))) (go st stk made (suc pc) (record rest { making = k })))
  comes_back c i a l v w rest pc k st stk made from next (op.Block m n) at ends =
      let frame : Frame = record { here = rest.here; kind = in_parts (record { getter = rest.getter; pc = suc pc; sight = rest.sight; pending = rest.pending }) } in
      at_op naming env store st stk made from (room env c i a l v w rest.pending rest.here k rest.left (rest.frames ++ frame ∷ [])) (op.Block m n) next at
      (λ t. go st stk made (suc pc) (record rest { making = k })) (rw (popped-last rest.frames frame) refl)
  comes_back c i a l v w rest pc k st stk made from next op.Bare at ends =
      let frame : Frame = record { here = rest.here; kind = in_parts (record { getter = rest.getter; pc = suc pc; sight = rest.sight; pending = rest.pending }) } in
      at_op naming env store st stk made from (room env c i a l v w rest.pending rest.here k rest.left (rest.frames ++ frame ∷ [])) op.Bare next at
      (λ t. go st stk made (suc pc) (record rest { making = k })) (rw (popped-last rest.frames frame) refl)
  comes_back c i a l v w rest pc k st stk made from next _ at ends = absurd ends

  pub spreads_go : (v : MPassed) (w : Passing) → Matches env w v → SpreadGoes naming env store (mpassed_parts v) w
  spreads_go mnothing w m st stk made pc rest =
      subst (λ p. Comes_as naming env store (spread_to (mach st stk made pc rest) p) (go st stk (made ++ []) (suc pc) (record rest { making = with_parts [] rest.making }))) (sym m)
      (rw (append-nil made, append-nil rest.making.parts) here)
  spreads_go (mpassed kb ps bs (mscope i a l v)) w (c, parts, last, next, o, slots, u, same, known, is, m, at_parts, at_end, ends, there) st stk made pc rest =
      let x = bind_written_as naming env.app (spread_in (mpassed_parts v) (mscope i a l v) ps) st in
      let frame : Frame = record { here = rest.here; kind = in_parts (record { getter = rest.getter; pc = suc pc; sight = rest.sight; pending = rest.pending }) } in
      subst (λ p. Comes_as naming env store (spread_to (mach st stk made pc rest) p) (go x.state stk (made ++ x.made) (suc pc) (record rest { making = with_parts x.parts rest.making }))) (sym same)
      (on naming env store
      (parts_come naming env store sound c i a l v u known is rest.pending rest.here rest.left (rest.frames ++ frame ∷ []) (mpassed_parts v) (spreads_go v u m) rest.making st stk made parts ps last at_parts)
      (comes_back c i a l v u rest pc (with_parts x.parts rest.making) x.state stk (made ++ x.made) last next o at_end ends))
