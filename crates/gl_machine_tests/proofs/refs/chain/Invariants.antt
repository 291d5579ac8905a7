use Rattle.std.proofs.Common.{◌≡◌, IsSome}
use Rattle.gl_refs.specs.Refs.{forms_of}
use Rattle.gl_machine_tests.proofs.refs.chain.Given as goal

abbrev pub invariant-loop : goal.invariant-loop
invariant-loop l = record {
  live : IsSome (forms_of l.refs l.last);
  stays : forms_of l.refs l.fn.first ≡ forms_of l.fn.refs l.fn.first;
  first : IsSome (forms_of l.refs l.fn.first);
}
