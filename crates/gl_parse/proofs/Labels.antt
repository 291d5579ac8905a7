-- The label of a block that is passed is what stands after the first character of its opening.
use Rattle.std.proofs.Common.{◌≡◌, ℕ, [], ◌∷◌, false, Some, None, drop, refl, ap, ◌∙◌}
use Rattle.std.specs.Prelude.{◌==◌}
use Rattle.std.proofs.lemmas.Bool.{eqb-true}
use Rattle.gl_base.specs.Texts.{Text}
use Rattle.gl_parse.specs.ReadStmt.{opened_name, after_colon, slot_name}
use Rattle.gl_exprs.proofs.FirstTokens.{test_some}
use Rattle.gl_exprs.proofs.Takings.{first_gave, some_is}

colon_is : (x n : Text) → after_colon x ≡ Some n → x ≡ 58 ∷ n
colon_is [] n e = let r : ⊥ = cc in absurd r
colon_is (c ∷ cs) n e =
    let s = test_some (c == 58) (Some cs) n e in
    let h : c ≡ 58 = eqb-true c 58 s.0 in
    let same = some_is _ _ s.1 in
    cc

open_is : (x n : Text) → opened_name x ≡ Some n → x ≡ 60 ∷ n
unfolding opened_name
open_is [] n e = let r : ⊥ = cc in absurd r
open_is (c ∷ cs) n e =
    let s = test_some (c == 60) (Some cs) n e in
    let h : c ≡ 60 = eqb-true c 60 s.0 in
    let same = some_is _ _ s.1 in
    cc

-- the name after `<:`
pub slot_name_is : (x n : Text) → slot_name x ≡ Some n → x ≡ 60 ∷ 58 ∷ n
unfolding slot_name
slot_name_is x n e =
    let m = first_gave (opened_name x) after_colon n e in
    open_is x m.0 m.1 ∙ ap (λ l. 60 ∷ l) (colon_is m.0 n m.2)

pub names_slot : (x n : Text) → x ≡ 60 ∷ 58 ∷ n → slot_name x ≡ Some n
unfolding slot_name opened_name
names_slot x n e = rw e refl

-- no other name has a slot's opening
pub other_name : (x n : Text) (c : ℕ) (cs : Text) → x ≡ 60 ∷ n → n ≡ c ∷ cs → (c == 58) ≡ false → slot_name x ≡ None
unfolding slot_name opened_name
other_name x n c cs e f g = rw (e, f, g) refl

pub labelled_by : (x n : Text) → slot_name x ≡ Some n → drop 1 x ≡ 58 ∷ n
labelled_by x n e = ap (λ l. drop 1 l) (slot_name_is x n e)

pub ruleset labelled = (labelled_by)
