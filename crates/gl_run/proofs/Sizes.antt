-- How many rows a text asks for.
use Rattle.std.proofs.Common.{◌≡◌, ◌<◌, ◌≤◌, ◌+◌, ◌^◌, ℕ, zero, suc, true, false, Bool, Option, Some, None, MatchOption, refl, sym, ap, ◌∙◌, arith, decimal}
use Rattle.std.specs.Prelude.{IfSome}
use Rattle.std.specs.Str.{bytes_eq}
use Rattle.std.proofs.lemmas.Bool.{false_from_ne_true}
use Rattle.std.proofs.lemmas.Fmt.{decimal_injective}
use Rattle.std.proofs.lemmas.Slice.Eq.{bytes_eq-Decides}
use Rattle.gl_base.specs.Texts.{Text}
use Rattle.gl_commands.specs.Command.{number_among, rows_in}

-- a text that writes none of the numbers
none_among : (text : Text) (count first : ℕ) → ((i : ℕ) → first ≤ i → i < first + count → bytes_eq text (decimal i) ≡ false) → number_among text count first ≡ None
unfolding number_among
none_among text zero first none = refl
none_among text (suc count) first none = rw (none first (omega arith) (omega arith)) (none_among text count (first + 1) (λ i low high. none i (omega arith) (omega arith)))

-- a text that writes one of them
one_among : (text : Text) (n : ℕ) → text ≡ decimal n → n < 2 ^ 64 → (count first : ℕ) → first ≤ n → n < first + count → number_among text count first ≡ Some n
unfolding number_among
one_among text n is small zero first low high = absurd (omega arith)
one_among text n is small (suc count) first low high = at_first (bytes_eq text (decimal first)) refl (λ above. one_among text n is small count (first + 1) above (omega arith)) where
  other : bytes_eq text (decimal first) ≡ false → first ≡ n → ⊥
  other e same =
      let told : bytes_eq text (decimal first) ≡ true = (bytes_eq-Decides text (decimal first)).1 (is ∙ ap decimal (sym same)) in
      let both : true ≡ false = sym told ∙ e in
      cc

  at_first : (b : Bool) → bytes_eq text (decimal first) ≡ b → (first + 1 ≤ n → number_among text count (first + 1) ≡ Some n) → number_among text (suc count) first ≡ Some n
  at_first true e later =
      let same : first ≡ n = decimal_injective first n (omega arith) small (sym ((bytes_eq-Decides text (decimal first)).0 e) ∙ is) in
      rw e (ap Some same)
  at_first false e later =
      let differs = other e in
      rw e (later (omega (arith, differs)))

pub asks_none : (text : Text) → ((i : ℕ) → i ≤ 10000 → bytes_eq text (decimal i) ≡ false) → None ≡ rows_in text
unfolding rows_in
asks_none text none = sym (none_among text 10000 1 (λ i low high. none i (omega arith)))

-- the number that is read, where it is within the bounds
pub asks : (text : Text) (n : ℕ) (r : Option ℕ) → text ≡ decimal n → n < 2 ^ 64 → MatchOption r (1 ≤ n → n ≤ 10000 → ⊥) (λ m. (m ≡ n) × (1 ≤ m) × (m ≤ 10000)) → r ≡ rows_in text
unfolding rows_in
asks text n None is small h =
    sym (none_among text 10000 1 (λ i low high. false_from_ne_true _ (λ t.
    let same : n ≡ i = decimal_injective n i small (omega arith) (sym is ∙ (bytes_eq-Decides text (decimal i)).0 t) in
    absurd (h (omega arith) (omega arith)))))
asks text n (Some m) is small h = ap Some h.0 ∙ sym (one_among text n is small 10000 1 (omega (arith, h)) (omega (arith, h)))

pub sized : (n : ℕ) (r : Option ℕ) → MatchOption r (1 ≤ n → n ≤ 10000 → ⊥) (λ m. (m ≡ n) × (1 ≤ m) × (m ≤ 10000)) → IfSome r (λ m. (1 ≤ m) × (m ≤ 10000))
sized n None h = tt
sized n (Some m) h = (h.1, h.2)
