-- The script while it is written.
use Rattle.std.proofs.Common.{ℕ, ◌≡◌, ◌<◌, ◌^◌, ◌+◌, ◌%◌, List, [], ◌∷◌, ◌++◌, map, refl, ap, sym, subst, ◌-◌, ◌∙◌, append_assoc, append-nil, add-one, arith}
use Rattle.std.specs.List.{range_with_len}
use Rattle.std.proofs.lemmas.Grind.{flat_map-append}
use Rattle.std.proofs.lemmas.List.FromFn.{map-range_with_len_more}
use Rattle.std.specs.Prelude.{if◌then◌else◌}
use Rattle.std.proofs.lemmas.Bool.{ne_eqb}
use Rattle.gl_base.specs.Texts.{Text}
use Rattle.gl_gen.specs.Rows.{rows, moved, after_commas}
use Rattle.gl_gen.specs.Script.{row_node, click, set_rows, event, event_at, random, following, script}
use Rattle.gl_gen.proofs.Arrays.{array_ended}

-- the first event and k more are written, and the number is that of the last one
pub record Written (n k number : ℕ) (text : Text) : Type 0 where
  pub drawn : number ≡ random n k
  pub small : number < 2 ^ 31
  pub begun : text ≡ 91 ∷ (event n 0 ++ after_commas (map (event n) (range_with_len 1 k)))

-- an event of an odd number
pub event_at-odd : (texts : List Text) (k place : ℕ) → ¬ (k % 2 ≡ 0) → event_at texts k place ≡ set_rows (moved place texts)
event_at-odd texts k place odd = ap (λ even. if even then click (row_node place) else set_rows (moved place texts)) (ne_eqb (k % 2) 0 odd)

pub event_is : (n k number : ℕ) (texts : List Text) → texts ≡ rows n → number ≡ random n k → event_at texts k (number % n) ≡ event n k
unfolding event
event_is n k number texts e d = rw (e, d) refl

random-more : (n k : ℕ) → random n (k + 1) ≡ following (random n k)
unfolding random
random-more n k = rw add-one refl

-- after one text more behind a comma
commas_more : (ts : List Text) (t : Text) → after_commas (ts ++ t ∷ []) ≡ after_commas ts ++ 44 ∷ t
commas_more ts t = flat_map-append (λ u. 44 ∷ u) ts (t ∷ []) ∙ ap (λ o. after_commas ts ++ 44 ∷ o) (append-nil t)

-- the first event is written
pub written_first : (n : ℕ) (texts : List Text) (text : Text) → n < 2 ^ 31 → texts ≡ rows n → text ≡ 91 ∷ event_at texts 0 (n % n) → Written n 0 n text
unfolding random
written_first n texts text small e f = record {
  drawn = refl;
  small = small;
  begun = f ∙ ap (λ o. 91 ∷ o) (event_is n 0 n texts e refl ∙ sym (append-nil (event n 0)));
}

-- one event more is written
pub written_more : (n event_number k number next : ℕ) (texts : List Text) (old new : Text) → event_number ≡ k + 1 → Written n k number old → next ≡ following number → next < 2 ^ 31 → texts ≡ rows n → new ≡ (old ++ 44 ∷ []) ++ event_at texts event_number (next % n) → Written n (event_number + 1 - 1) next new
written_more n i k number next texts old new at w is small e f =
    let drawn : next ≡ random n (k + 1) = is ∙ ap following w.drawn ∙ sym (random-more n k) in
    let here : event_at texts (k + 1) (next % n) ≡ event n (k + 1) = event_is n (k + 1) next texts e drawn in
    let done = map (event n) (range_with_len 1 k) in
    let listed : map (event n) (range_with_len 1 (k + 1)) ≡ done ++ event n (k + 1) ∷ [] = map-range_with_len_more (event n) 1 k (k + 1) (omega arith) in
    let more : after_commas (map (event n) (range_with_len 1 (k + 1))) ≡ after_commas done ++ 44 ∷ event n (k + 1) = ap after_commas listed ∙ commas_more done (event n (k + 1)) in
    let same : i + 1 - 1 ≡ k + 1 = omega arith in
    let written : Written n (k + 1) next new = record {
      drawn = drawn;
      small = small;
      begun =
          f ∙ ap (λ j. (old ++ 44 ∷ []) ++ event_at texts j (next % n)) at
          ∙ append_assoc old (44 ∷ []) (event_at texts (k + 1) (next % n))
          ∙ ap (λ o. old ++ 44 ∷ o) here ∙ ap (λ o. o ++ 44 ∷ event n (k + 1)) w.begun
          ∙ ap (λ o. 91 ∷ o) (append_assoc (event n 0) (after_commas done) (44 ∷ event n (k + 1)) ∙ ap (λ o. event n 0 ++ o) (sym more));
    } in
    let P : ℕ → Type 0 = λ j. Written n j next new in
    subst P (sym same) written

-- all events are written
pub written_all : (n i number : ℕ) (old new : Text) → i ≡ 16 → Written n (i - 1) number old → new ≡ old ++ 93 ∷ [] → new ≡ script n
unfolding script
written_all n i number old new e w f =
    let all : Written n 15 number old = rw e at w in
    array_ended (event n 0) (map (event n) (range_with_len 1 15)) old new all.begun f
