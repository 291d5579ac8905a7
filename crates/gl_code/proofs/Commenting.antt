-- Comments where what was rendered has no node, and what is rendered where a body ends.
use Rattle.std.proofs.Common.{◌≡◌, Bool, true, false, [], Some, None, refl, sym, ◌∙◌, ap}
use Rattle.std.specs.Prelude.{if◌then◌else◌}
use Rattle.gl_arena.specs.Id.{Id}
use Rattle.gl_meaning.specs.Scope.{Source}
use Rattle.gl_plain.specs.Ids.{a_node}
use Rattle.gl_plain.specs.State.{comment_content}
use Rattle.gl_plain.specs.Grow.{made_node}
use Rattle.gl_plain.specs.Live.{have_node}
use Rattle.gl_machine.specs.Code as c
use Rattle.gl_vm.specs.View.{Tables, state_of, Agrees}
use Rattle.gl_vm.specs.Steps.{Does, Numbers}
use Rattle.gl_vm.specs.declared.vm.Vm.{Vm}
use Rattle.gl_code.specs.CodeView.{seen_codes}
use Rattle.gl_code.specs.Comments.{Commented}
use Rattle.gl_code.specs.declared.code.Codes.{Codes}

-- A node stands in it: there is no comment.
pub no_comment : (vm : Vm) (codes : Codes) → ((n : Tables) → true ≡ have_node (c.lives_of (seen_codes n codes)))
    → (n : Tables) (t : Source → Bool) → Agrees t vm → Commented n (seen_codes n codes, state_of n vm t) vm None
no_comment vm codes e n t a =
    let cs = seen_codes n codes in
    let st = state_of n vm t in
    record {
      state = st;
      follows = record { state = refl; agrees = a };
      is = ap (λ (b : Bool). if b then record { comment = None; codes = cs; state = st } else record { comment = Some (st.next a_node); codes = cs; state = made_node (comment_content []) st }) (sym (e n));
    }

-- No node stands in it: a comment is made.
pub comment_made : (vm vm' : Vm) (codes : Codes) (id : Id) → ((n : Tables) → false ≡ have_node (c.lives_of (seen_codes n codes))) → Does (λ n. made_node (comment_content [])) vm vm' → Numbers vm.tree.nodes vm'.tree.nodes id
    → (n : Tables) (t : Source → Bool) → Agrees t vm → Commented n (seen_codes n codes, state_of n vm t) vm' (Some id)
comment_made vm vm' codes id e d i n t a =
    let cs = seen_codes n codes in
    let st = state_of n vm t in
    record {
      state = made_node (comment_content []) st;
      follows = d n t a;
      is = ap (λ (b : Bool). if b then record { comment = None; codes = cs; state = st } else record { comment = Some (st.next a_node); codes = cs; state = made_node (comment_content []) st }) (sym (e n))
          ∙ ap (λ x. record { comment = Some x; codes = cs; state = made_node (comment_content []) st }) (sym i.stamp);
    }
