use Rattle.std.proofs.Common.{◌∙◌, ap, sym, rules}
use Rattle.gl_value.specs.Value.{list, pairs, values_of, pairs_of, plain}
use Rattle.gl_value.specs.View.{view}
use Rattle.gl_value.proofs.Plain.{plain_values-of, plain_members-of, plain_list_itself, plain_pairs_itself, if_same}
use Rattle.gl_value.proofs.value.+plain.Goals as goal

pub List::plain-returns-then-is_plain : goal.List::plain-returns-then-is_plain
List::plain-returns-then-is_plain t c = if_same c.copy.result c.args.self.now _ c.copy.ensures (plain_list_itself c.args.self.now (search rules))

pub Record::plain-returns-then-is_plain : goal.Record::plain-returns-then-is_plain
Record::plain-returns-then-is_plain t c = if_same c.copy.result c.args.self.now _ c.copy.ensures (plain_pairs_itself c.args.self.now (search rules))

pub Value::plain-returns-in_ok-plain-in-List : goal.Value::plain-returns-in_ok-plain-in-List
Value::plain-returns-in_ok-plain-in-List t c =
    ap list (ap values_of c.in_ok-plain-in-List.ensures ∙ plain_values-of c.in-List.list) ∙ ap (λ v. plain (view v)) (sym c.in-List.is)

pub Value::plain-returns-in_ok-plain-in-Record : goal.Value::plain-returns-in_ok-plain-in-Record
Value::plain-returns-in_ok-plain-in-Record t c =
    ap pairs (ap pairs_of c.in_ok-plain-in-Record.ensures ∙ plain_members-of c.in-Record.record) ∙ ap (λ v. plain (view v)) (sym c.in-Record.is)
