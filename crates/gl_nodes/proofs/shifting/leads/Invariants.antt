use Rattle.gl_nodes.specs.Links.{Leads}
use Rattle.gl_nodes.specs.View.{links_of}
use Rattle.gl_nodes.proofs.shifting.leads.Given as goal

abbrev pub invariant-loop : goal.invariant-loop
invariant-loop l = Leads (links_of l.fn.entries) l.at l.fn.last l.fn.next → Leads (links_of l.fn.entries) l.fn.first l.fn.last l.fn.next
