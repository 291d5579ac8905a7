-- Scans go forward: what a scan leaves is the end of what it was given, and a text where that was one.
use Rattle.std.proofs.Common.{◌≡◌, ◌<◌, ◌≤◌, ◌-◌, ℕ, zero, suc, List, [], ◌∷◌, ◌++◌, Bool, true, false, Option, Some, None, cond, ◌&&◌, ◌⊎◌, inl, inr, not, unwrap_or, option_map, length, get_or, refl, sym, ap, subst, ◌∙◌, append_assoc, arith, eqb, ltb, length-append}
use Rattle.std.specs.Str.{IsUtf8}
use Rattle.std.proofs.lemmas.Str.{IsUtf8-drop, IsUtf8-nil, IsCharBoundary-after_ascii, IsCharBoundary-before_ascii}
use Rattle.std.proofs.Math.Seq.{drop-append_seam, get_or-append_seam}
use Rattle.std.proofs.lemmas.Bool.Decides.{nat_tests}
use Rattle.gl_base.specs.Answers.{◌>>=◌}
use Rattle.gl_base.specs.Names.{or_else}
use Rattle.gl_base.specs.Texts.{is_ascii_text}
use Rattle.gl_ast.specs.Scans.{after, after_any, after_all, after_word, from_first, up_to_first, after_run, after_pieces, after_closing}

-- these bytes end with those
abbrev pub Leaves : List ℕ → List ℕ → Type 0
Leaves bs rest = (front : List ℕ) × (bs ≡ front ++ rest) × (IsUtf8 bs → IsUtf8 rest)

-- after at least one byte
abbrev pub Steps : List ℕ → List ℕ → Type 0
Steps bs rest = (b : ℕ) × (front : List ℕ) × (bs ≡ b ∷ (front ++ rest)) × (IsUtf8 bs → IsUtf8 rest)

abbrev pub Scans : (List ℕ → Option (List ℕ)) → Type 0
Scans f = (bs rest : List ℕ) → f bs ≡ Some rest → Leaves bs rest

abbrev pub Moves : (List ℕ → Option (List ℕ)) → Type 0
Moves f = (bs rest : List ℕ) → f bs ≡ Some rest → Steps bs rest

pub leaves_nothing : (bs : List ℕ) → Leaves bs bs
leaves_nothing bs = ([], refl, λ u. u)

pub steps_leaves : (bs rest : List ℕ) → Steps bs rest → Leaves bs rest
steps_leaves bs rest s = (s.0 ∷ s.1, s.2, s.3)

pub leaves_more : (bs xs rest : List ℕ) → Leaves bs xs → Leaves xs rest → Leaves bs rest
leaves_more bs xs rest p q = (p.0 ++ q.0, p.1 ∙ ap (λ l. p.0 ++ l) q.1 ∙ sym (append_assoc p.0 q.0 rest), λ u. q.2 (p.2 u))

pub steps_more : (bs xs rest : List ℕ) → Steps bs xs → Leaves xs rest → Steps bs rest
steps_more bs xs rest p q = (p.0, p.1 ++ q.0, p.2 ∙ ap (λ l. p.0 ∷ (p.1 ++ l)) q.1 ∙ ap (λ l. p.0 ∷ l) (sym (append_assoc p.1 q.0 rest)), λ u. q.2 (p.3 u))

after_front : (front bs xs rest : List ℕ) → bs ≡ front ++ xs → (IsUtf8 bs → IsUtf8 xs) → Steps xs rest → Steps bs rest
after_front [] bs xs rest e u s = (s.0, s.1, e ∙ s.2, λ v. s.3 (u v))
after_front (c ∷ cs) bs xs rest e u s =
    (c, cs ++ s.0 ∷ s.1, e ∙ ap (λ l. c ∷ (cs ++ l)) s.2 ∙ ap (λ l. c ∷ l) (sym (append_assoc cs (s.0 ∷ s.1) rest)), λ v. s.3 (u v))

pub leaves_step : (bs xs rest : List ℕ) → Leaves bs xs → Steps xs rest → Steps bs rest
leaves_step bs xs rest p s = after_front p.0 bs xs rest p.1 p.2 s

-- the second scan, from where the first ended
pub bind_some : {A B : Type 0} (o : Option A) (f : A → Option B) (y : B) → (o >>= f) ≡ Some y → (x : A) × (o ≡ Some x) × (f x ≡ Some y)
bind_some None f y e = cc
bind_some (Some x) f y e = (x, refl, e)

pub scans_then : (f g : List ℕ → Option (List ℕ)) → Scans f → Scans g → Scans (λ bs. f bs >>= g)
scans_then f g p q bs rest e = let b = bind_some (f bs) g rest e in leaves_more bs b.0 rest (p bs b.0 b.1) (q b.0 rest b.2)

pub moves_then : (f g : List ℕ → Option (List ℕ)) → Moves f → Scans g → Moves (λ bs. f bs >>= g)
moves_then f g p q bs rest e = let b = bind_some (f bs) g rest e in steps_more bs b.0 rest (p bs b.0 b.1) (q b.0 rest b.2)

pub scans_move : (f g : List ℕ → Option (List ℕ)) → Scans f → Moves g → Moves (λ bs. f bs >>= g)
scans_move f g p q bs rest e = let b = bind_some (f bs) g rest e in leaves_step bs b.0 rest (p bs b.0 b.1) (q b.0 rest b.2)

pub moves_scan : (f : List ℕ → Option (List ℕ)) → Moves f → Scans f
moves_scan f p bs rest e = steps_leaves bs rest (p bs rest e)

either : (o p : Option (List ℕ)) (rest : List ℕ) → or_else o p ≡ Some rest → (o ≡ Some rest) ⊎ (p ≡ Some rest)
either None p rest e = inr e
either (Some x) p rest e = inl e

pub moves_or : (f g : List ℕ → Option (List ℕ)) → Moves f → Moves g → Moves (λ bs. or_else (f bs) (g bs))
moves_or f g p q bs rest e = elim (either (f bs) (g bs) rest e) [ inl h ↦ p bs rest h | inr h ↦ q bs rest h ]

pub scans_or : (f g : List ℕ → Option (List ℕ)) → Scans f → Scans g → Scans (λ bs. or_else (f bs) (g bs))
scans_or f g p q bs rest e = elim (either (f bs) (g bs) rest e) [ inl h ↦ p bs rest h | inr h ↦ q bs rest h ]

-- a scan that always leaves something
pub scans_total : (f : List ℕ → List ℕ) → ((bs : List ℕ) → Leaves bs (f bs)) → Scans (λ bs. Some (f bs))
scans_total f p bs rest e = let h : f bs ≡ rest = cc in subst (λ (l : List ℕ). Leaves bs l) h (p bs)

-- What follows a byte of ASCII is a text, and so is what begins with one.
pub tail_text : (c : ℕ) (bs : List ℕ) → c < 128 → IsUtf8 (c ∷ bs) → IsUtf8 bs
tail_text c bs h u = IsUtf8-drop (c ∷ bs) 1 u (IsCharBoundary-after_ascii (c ∷ bs) 0 u (omega arith) h)

before_length : (front rest : List ℕ) (c : ℕ) → length front < length (front ++ c ∷ rest)
before_length [] rest c = omega arith
before_length (b ∷ bs) rest c = let h = before_length bs rest c in omega (arith, h)

pub head_text : (front rest : List ℕ) (c : ℕ) → c < 128 → IsUtf8 (front ++ c ∷ rest) → IsUtf8 (c ∷ rest)
head_text front rest c h u =
    let e = get_or-append_seam front c rest 0 in
    let low : get_or (front ++ c ∷ rest) (length front) 0 < 128 = omega (arith, e, h) in
    let d = IsUtf8-drop (front ++ c ∷ rest) (length front) u (IsCharBoundary-before_ascii (front ++ c ∷ rest) (length front) (before_length front rest c) low) in
    rw (drop-append_seam front (c ∷ rest)) at d

-- what a test that holds says
pub if_some : {A : Type 0} (t : Bool) (o : Option A) (y : A) → cond t o None ≡ Some y → (t ≡ true) × (o ≡ Some y)
if_some true o y e = (refl, e)
if_some false o y e = cc

pub both : (x y : Bool) → (x && y) ≡ true → (x ≡ true) × (y ≡ true)
both true y e = (refl, e)
both false y e = cc

pub same_byte : (c b : ℕ) → eqb c b ≡ true → c ≡ b
same_byte c b e = grind (arith, nat_tests)

pub low_byte : (b : ℕ) → ltb b 128 ≡ true → b < 128
low_byte b e = grind (arith, nat_tests)

pub low_text : (b : ℕ) → ltb b 128 ≡ true → is_ascii_text (b ∷ []) ≡ true
low_text b e = rw e refl

-- a byte of ASCII, and then what leaves the rest
pub ascii_then : (b : ℕ) (bs rest : List ℕ) → b < 128 → Leaves bs rest → Leaves (b ∷ bs) rest
ascii_then b bs rest h p = (b ∷ p.0, ap (λ l. b ∷ l) p.1, λ u. p.2 (tail_text b bs h u))

ascii_step : (b : ℕ) (bs rest : List ℕ) → b < 128 → Leaves bs rest → Steps (b ∷ bs) rest
ascii_step b bs rest h p = (b, p.0, ap (λ l. b ∷ l) p.1, λ u. p.2 (tail_text b bs h u))

-- the bytes of a literal
pub scans_after : (cs : List ℕ) → is_ascii_text cs ≡ true → Scans (after cs)
scans_after [] a bs rest e = let h : bs ≡ rest = cc in ([], h, λ u. rw (← h) u)
scans_after (c ∷ cs) a [] rest e = cc
scans_after (c ∷ cs) a (b ∷ bs) rest e =
    let t = if_some (eqb c b) (after cs bs) rest e in
    let low = both (ltb c 128) (is_ascii_text cs) a in
    let same = same_byte c b t.0 in
    ascii_then b bs rest (subst (λ (n : ℕ). n < 128) same (low_byte c low.0)) (scans_after cs low.1 bs rest t.1)

pub moves_after : (c : ℕ) (cs : List ℕ) → is_ascii_text (c ∷ cs) ≡ true → Moves (after (c ∷ cs))
moves_after c cs a [] rest e = cc
moves_after c cs a (b ∷ bs) rest e =
    let t = if_some (eqb c b) (after cs bs) rest e in
    let low = both (ltb c 128) (is_ascii_text cs) a in
    let same = same_byte c b t.0 in
    ascii_step b bs rest (subst (λ (n : ℕ). n < 128) same (low_byte c low.0)) (scans_after cs low.1 bs rest t.1)

any_cases : (o : Option (List ℕ)) (bs : List ℕ) → ((rest : List ℕ) → o ≡ Some rest → Leaves bs rest) → Leaves bs (unwrap_or o bs)
any_cases None bs p = leaves_nothing bs
any_cases (Some x) bs p = p x refl

pub leaves_any : (cs : List ℕ) → is_ascii_text cs ≡ true → (bs : List ℕ) → Leaves bs (after_any cs bs)
leaves_any cs a bs = any_cases (after cs bs) bs (λ rest. scans_after cs a bs rest)

-- all bytes that pass a test which ASCII alone passes
all_cases : (p : ℕ → Bool) → ((b : ℕ) → p b ≡ true → b < 128) → (b : ℕ) (bs : List ℕ) (t : Bool) → p b ≡ t → Leaves bs (after_all p bs) → Leaves (b ∷ bs) (cond t (after_all p bs) (b ∷ bs))
all_cases p low b bs true e h = ascii_then b bs (after_all p bs) (low b e) h
all_cases p low b bs false e h = leaves_nothing (b ∷ bs)

pub leaves_all : (p : ℕ → Bool) → ((b : ℕ) → p b ≡ true → b < 128) → (bs : List ℕ) → Leaves bs (after_all p bs)
leaves_all p low [] = leaves_nothing []
leaves_all p low (b ∷ bs) = all_cases p low b bs (p b) refl (leaves_all p low bs)

pub moves_word : (first more : ℕ → Bool) → ((b : ℕ) → first b ≡ true → b < 128) → ((b : ℕ) → more b ≡ true → b < 128) → Moves (after_word first more)
moves_word first more low lows [] rest e = cc
moves_word first more low lows (b ∷ bs) rest e =
    let t = if_some (first b) (Some (after_all more bs)) rest e in
    let h : after_all more bs ≡ rest = cc in
    ascii_step b bs rest (low b t.0) (subst (λ (l : List ℕ). Leaves bs l) h (leaves_all more lows bs))

-- What stops before a byte of ASCII, or at the end, leaves a text.
abbrev pub IsLow : List ℕ → Type 0
IsLow [] = Unit {0}
IsLow (b ∷ bs) = b < 128

low_leaves : (bs front rest : List ℕ) → bs ≡ front ++ rest → IsLow rest → IsUtf8 bs → IsUtf8 rest
low_leaves bs front [] e h u = IsUtf8-nil
low_leaves bs front (b ∷ rest) e h u = head_text front rest b h (subst IsUtf8 e u)

-- where a scan stops, by the list alone
abbrev pub Stops : List ℕ → List ℕ → Type 0
Stops bs rest = (front : List ℕ) × (bs ≡ front ++ rest) × IsLow rest

stops_more : (b : ℕ) (bs rest : List ℕ) → Stops bs rest → Stops (b ∷ bs) rest
stops_more b bs rest p = (b ∷ p.0, ap (λ l. b ∷ l) p.1, p.2)

pub stops_leave : (bs rest : List ℕ) → Stops bs rest → Leaves bs rest
stops_leave bs rest p = (p.0, p.1, low_leaves bs p.0 rest p.1 p.2)

pub stops_step : (b : ℕ) (bs rest : List ℕ) → Stops bs rest → Steps (b ∷ bs) rest
stops_step b bs rest p = (b, p.0, ap (λ l. b ∷ l) p.1, low_leaves (b ∷ bs) (b ∷ p.0) rest (ap (λ l. b ∷ l) p.1) p.2)

stop_cases : (p : ℕ → Bool) → ((b : ℕ) → p b ≡ false → b < 128) → (b : ℕ) (bs : List ℕ) (t : Bool) → p b ≡ t → Stops bs (after_all p bs) → Stops (b ∷ bs) (cond t (after_all p bs) (b ∷ bs))
stop_cases p low b bs true e h = stops_more b bs (after_all p bs) h
stop_cases p low b bs false e h = ([], refl, low b e)

all_stops : (p : ℕ → Bool) → ((b : ℕ) → p b ≡ false → b < 128) → (bs : List ℕ) → Stops bs (after_all p bs)
all_stops p low [] = ([], refl, tt)
all_stops p low (b ∷ bs) = stop_cases p low b bs (p b) refl (all_stops p low bs)

-- a word that only ASCII ends
pub moves_until : (p : ℕ → Bool) → ((b : ℕ) → p b ≡ false → b < 128) → Moves (after_word p p)
moves_until p low [] rest e = cc
moves_until p low (b ∷ bs) rest e =
    let t = if_some (p b) (Some (after_all p bs)) rest e in
    let h : after_all p bs ≡ rest = cc in
    subst (λ (l : List ℕ). Steps (b ∷ bs) l) h (stops_step b bs (after_all p bs) (all_stops p low bs))

-- a place that begins with a byte of ASCII
abbrev pub IsLowSign : (List ℕ → Bool) → Type 0
IsLowSign p = (b : ℕ) (bs : List ℕ) → p (b ∷ bs) ≡ true → b < 128

first_cases : (p : List ℕ → Bool) → IsLowSign p → (b : ℕ) (bs rest : List ℕ) (t : Bool) → p (b ∷ bs) ≡ t → (from_first p bs ≡ Some rest → Stops bs rest) → cond t (Some (b ∷ bs)) (from_first p bs) ≡ Some rest → Stops (b ∷ bs) rest
first_cases p low b bs rest true h more e = let same : b ∷ bs ≡ rest = cc in subst (λ (l : List ℕ). Stops (b ∷ bs) l) same ([], refl, low b bs h)
first_cases p low b bs rest false h more e = stops_more b bs rest (more e)

first_stops : (p : List ℕ → Bool) → IsLowSign p → (bs rest : List ℕ) → from_first p bs ≡ Some rest → Stops bs rest
first_stops p low [] rest e = cc
first_stops p low (b ∷ bs) rest e = first_cases p low b bs rest (p (b ∷ bs)) refl (first_stops p low bs rest) e

pub scans_first : (p : List ℕ → Bool) → IsLowSign p → Scans (from_first p)
scans_first p low bs rest e = stops_leave bs rest (first_stops p low bs rest e)

up_to_cases : (p : List ℕ → Bool) → IsLowSign p → (b : ℕ) (bs : List ℕ) (t : Bool) → p (b ∷ bs) ≡ t → Stops bs (up_to_first p bs) → Stops (b ∷ bs) (cond t (b ∷ bs) (up_to_first p bs))
up_to_cases p low b bs true h more = ([], refl, low b bs h)
up_to_cases p low b bs false h more = stops_more b bs (up_to_first p bs) more

up_to_stops : (p : List ℕ → Bool) → IsLowSign p → (bs : List ℕ) → Stops bs (up_to_first p bs)
up_to_stops p low [] = ([], refl, tt)
up_to_stops p low (b ∷ bs) = up_to_cases p low b bs (p (b ∷ bs)) refl (up_to_stops p low bs)

run_cases : (p : List ℕ → Bool) → IsLowSign p → (b : ℕ) (bs rest : List ℕ) (t : Bool) → cond t None (Some (up_to_first p bs)) ≡ Some rest → Steps (b ∷ bs) rest
run_cases p low b bs rest true e = cc
run_cases p low b bs rest false e = let h : up_to_first p bs ≡ rest = cc in subst (λ (l : List ℕ). Steps (b ∷ bs) l) h (stops_step b bs (up_to_first p bs) (up_to_stops p low bs))

pub moves_run : (p : List ℕ → Bool) → IsLowSign p → Moves (after_run p)
moves_run p low [] rest e = cc
moves_run p low (b ∷ bs) rest e = run_cases p low b bs rest (p (b ∷ bs)) e

-- a string's end, after its quote
close_cases : (quote b : ℕ) (bs rest : List ℕ) (t s : Bool) → eqb b quote ≡ t → (after_closing quote (eqb b 92) bs ≡ Some rest → (front : List ℕ) × (bs ≡ front ++ quote ∷ rest)) → cond (t && s) (Some bs) (after_closing quote (eqb b 92) bs) ≡ Some rest → (front : List ℕ) × (b ∷ bs ≡ front ++ quote ∷ rest)
close_cases quote b bs rest true true h more e = let same = same_byte b quote h in let left : bs ≡ rest = cc in ([], cc)
close_cases quote b bs rest true false h more e = let m = more e in (b ∷ m.0, ap (λ l. b ∷ l) m.1)
close_cases quote b bs rest false s h more e = let m = more e in (b ∷ m.0, ap (λ l. b ∷ l) m.1)

closes : (quote : ℕ) (escaped : Bool) (bs rest : List ℕ) → after_closing quote escaped bs ≡ Some rest → (front : List ℕ) × (bs ≡ front ++ quote ∷ rest)
closes quote escaped [] rest e = cc
closes quote escaped (b ∷ bs) rest e = close_cases quote b bs rest (eqb b quote) (not escaped) refl (closes quote (eqb b 92) bs rest) e

pub scans_closing : (quote : ℕ) (escaped : Bool) → quote < 128 → Scans (after_closing quote escaped)
scans_closing quote escaped low bs rest e =
    let m = closes quote escaped bs rest e in
    let cut : (m.0 ++ quote ∷ []) ++ rest ≡ m.0 ++ quote ∷ rest = append_assoc m.0 (quote ∷ []) rest in
    (m.0 ++ quote ∷ [], m.1 ∙ sym cut, λ u. tail_text quote rest low (head_text m.0 rest quote low (subst IsUtf8 m.1 u)))

-- pieces one after another
skipped : (piece : List ℕ → Option (List ℕ)) (front rest : List ℕ) → after_pieces piece (length front) (front ++ rest) ≡ after_pieces piece 0 rest
skipped piece [] rest = refl
skipped piece (b ∷ bs) rest = skipped piece bs rest

length_left : (front rest : List ℕ) → length (front ++ rest) - length rest ≡ length front
length_left front rest = omega (arith, length-append front rest)

pub piece_step : (piece : List ℕ → Option (List ℕ)) (bs rest : List ℕ) → piece bs ≡ Some rest → Steps bs rest → after_pieces piece 0 bs ≡ after_pieces piece 0 rest
piece_step piece [] rest e s = let h = s.2 in cc
piece_step piece (b ∷ bs) rest e s =
    let tail : bs ≡ s.1 ++ rest = let h = s.2 in cc in
    ap (λ o. unwrap_or (option_map (λ (r : List ℕ). after_pieces piece (length bs - length r) bs) o) (b ∷ bs)) e
    ∙ ap (λ l. after_pieces piece (length l - length rest) l) tail
    ∙ ap (λ n. after_pieces piece n (s.1 ++ rest)) (length_left s.1 rest) ∙ skipped piece s.1 rest

pub piece_end : (piece : List ℕ → Option (List ℕ)) (bs : List ℕ) → piece bs ≡ None → after_pieces piece 0 bs ≡ bs
piece_end piece [] e = refl
piece_end piece (b ∷ bs) e = ap (λ o. unwrap_or (option_map (λ (r : List ℕ). after_pieces piece (length bs - length r) bs) o) (b ∷ bs)) e

pieces_cases : (n : ℕ) (piece : List ℕ → Option (List ℕ)) (bs : List ℕ) (o : Option (List ℕ)) → piece bs ≡ o → Moves piece → ((rest : List ℕ) → length rest ≤ n → Leaves rest (after_pieces piece 0 rest)) → length bs ≤ suc n → Leaves bs (after_pieces piece 0 bs)
pieces_cases n piece bs None e p more h = subst (λ (l : List ℕ). Leaves bs l) (sym (piece_end piece bs e)) (leaves_nothing bs)
pieces_cases n piece bs (Some rest) e p more h =
    let s = p bs rest e in
    let shorter : length rest ≤ n = omega (arith, length-append s.1 rest, ap length s.2) in
    subst (λ (l : List ℕ). Leaves bs l) (sym (piece_step piece bs rest e s)) (leaves_more bs rest (after_pieces piece 0 rest) (steps_leaves bs rest s) (more rest shorter))

pieces_within : (n : ℕ) (piece : List ℕ → Option (List ℕ)) → Moves piece → (bs : List ℕ) → length bs ≤ n → Leaves bs (after_pieces piece 0 bs)
pieces_within n piece p [] h = leaves_nothing []
pieces_within zero piece p (b ∷ bs) h = absurd (omega arith)
pieces_within (suc n) piece p (b ∷ bs) h = pieces_cases n piece (b ∷ bs) (piece (b ∷ bs)) refl p (λ rest m. pieces_within n piece p rest m) h

pub leaves_pieces : (piece : List ℕ → Option (List ℕ)) → Moves piece → (bs : List ℕ) → Leaves bs (after_pieces piece 0 bs)
leaves_pieces piece p bs = let h : length bs ≤ length bs = omega arith in pieces_within (length bs) piece p bs h
