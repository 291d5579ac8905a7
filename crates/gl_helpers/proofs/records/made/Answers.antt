use Rattle.std.proofs.Common.{◌∙◌, [], ap}
use Rattle.gl_value.specs.Value.{pairs, pairs_of, text_of}
use Rattle.gl_value.specs.Helpers.{members_in}
use Rattle.gl_helpers.specs.Records.{put_all}
use Rattle.gl_helpers.proofs.Propers.{argument_keeps, items_keep, members_keep}
use Rattle.gl_helpers.proofs.Puts.{pairs_of-put_all, put_same}
use Rattle.gl_helpers.proofs.records.made.Goals as goal

pub returns-in_ok-hash-in-Hash-clause-value : goal.returns-in_ok-hash-in-Hash-clause-value
returns-in_ok-hash-in-Hash-clause-value c =
    rw c.in-Hash.is (ap pairs (ap pairs_of (c.in_ok-hash-in-Hash.ensures.value ∙ ap (put_all []) c.as_slice.ensures) ∙ pairs_of-put_all [] c.args.named.now))

pub returns-in_ok-record-in-Put-clause-value : goal.returns-in_ok-record-in-Put-clause-value
returns-in_ok-record-in-Put-clause-value c =
    rw c.in-Put.is (ap pairs (put_same _ _ _ _ _ _ _ c.in_ok-record-in-Put.ensures.value (c.text.ensures ∙ c.in_ok-key-in-Put.ensures ∙ ap text_of c.at.ensures) c.at-in-Put-2.ensures (c.pairs_in.ensures ∙ ap members_in c.at-in-Put.ensures)))

pub returns-in_ok-record-in-Put-clause-keeps : goal.returns-in_ok-record-in-Put-clause-keeps
returns-in_ok-record-in-Put-clause-keeps c = λ all named.
    let args = c.args.args.now in
    c.in_ok-record-in-Put.ensures.keeps (rw (c.pairs_in.ensures, c.at-in-Put.ensures) (members_keep _ (argument_keeps 0 args all))) (rw c.at-in-Put-2.ensures (argument_keeps 2 args all))

pub returns-in_ok-update_where-in-UpdateWhere-clause-keeps : goal.returns-in_ok-update_where-in-UpdateWhere-clause-keeps
returns-in_ok-update_where-in-UpdateWhere-clause-keeps c = λ all named.
    let args = c.args.args.now in
    c.in_ok-update_where-in-UpdateWhere.ensures.keeps (rw (c.items_in.ensures, c.at-in-UpdateWhere-5.ensures) (items_keep _ (argument_keeps 0 args all))) (rw c.at-in-UpdateWhere-4.ensures (argument_keeps 4 args all))
