-- The byte order of texts.
use Rattle.std.proofs.Common.{◌≡◌, ℕ, List, true, false, sym, ap, ◌∙◌, rules}
use Rattle.std.specs.Str.{bytes_eq}
use Rattle.std.specs.Ordering.{nat_cmp, is_lt, is_eq, ordering_reverse}
use Rattle.std.specs.Cmp.Lexicographic.{slice_cmp}
use Rattle.std.specs.declared.cmp.Ordering.TheVariants.{Less, Equal, Greater}
use Rattle.std.proofs.lemmas.Cmp.{nat_list_cmp_total, tied_itself}
use Rattle.std.proofs.lemmas.Map.Text.{is_eq-slice_cmp}
use Rattle.std.proofs.lemmas.Bool.{false_from_ne_true}
use Rattle.std.proofs.lemmas.Slice.Eq.{bytes_eq-Decides}
use Rattle.gl_base.specs.Texts.{Text, bytes_of, text_less}
use Rattle.gl_helpers.specs.Records.{text_order}

-- bytes that compare as equal are equal
pub equal_bytes : (xs ys : List ℕ) → slice_cmp nat_cmp xs ys ≡ Equal → xs ≡ ys
equal_bytes xs ys e = search (rules, bytes_eq-Decides xs ys, sym (is_eq-slice_cmp xs ys) ∙ ap is_eq e)

pub order_back : (s t : Text) → text_order s t ≡ ordering_reverse (text_order t s)
order_back s t = nat_list_cmp_total.antisymm (bytes_of s) (bytes_of t)

order_self : (s : Text) → text_order s s ≡ Equal
order_self s = tied_itself nat_list_cmp_total (bytes_of s)

-- a key that is less than another is another, and isn't after it
pub differs : (k l : Text) → bytes_eq k l ≡ true → text_order l k ≡ Equal
differs k l e =
    let same : k ≡ l = search (rules, bytes_eq-Decides k l, e) in
    rw same (order_self l)

pub before_differs : (k l : Text) → text_order l k ≡ Less → bytes_eq k l ≡ false
before_differs k l e = false_from_ne_true _ (λ same. let h : Equal ≡ Less = sym (differs k l same) ∙ e in cc)

pub before_not_after : (k l : Text) → text_order l k ≡ Less → text_less k l ≡ false
before_not_after k l e = ap is_lt (order_back k l ∙ ap ordering_reverse e)

pub after_differs : (k l : Text) → text_order l k ≡ Greater → bytes_eq k l ≡ false
after_differs k l e = false_from_ne_true _ (λ same. let h : Equal ≡ Greater = sym (differs k l same) ∙ e in cc)

pub after_less : (k l : Text) → text_order l k ≡ Greater → text_less k l ≡ true
after_less k l e = ap is_lt (order_back k l ∙ ap ordering_reverse e)

pub text_itself : (k : Text) → bytes_eq k k ≡ true
text_itself k = search (rules, bytes_eq-Decides k k)
