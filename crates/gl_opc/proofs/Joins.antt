-- What a step gives: its unknown names, and a piece behind what is linked. And steps one after another.
use Rattle.std.proofs.Common.{◌≡◌, ◌+◌, ℕ, suc, ℤ, List, [], ◌∷◌, ◌++◌, Option, Some, None, Ok, Err, length, map, refl, sym, ap, ◌∙◌, arith, append_assoc, length-append, append-nil}
use Rattle.std.specs.Prelude.{is_some}
use Rattle.std.proofs.Math.Nat.{zero-add, add-zero}
use Rattle.std.proofs.lemmas.List.{map-append}
use Rattle.gl_base.specs.Texts.{Text}
use Rattle.gl_ops.specs.declared.op.Op.{Op}
use Rattle.gl_meaning.specs.Known.{Kind, Unknown, unless_known}
use Rattle.gl_opc.specs.Linked.{State, Step, ◌>>=◌, known, op_added, text_op_added, name_op_added, int_op_added, name_added, started}
use Rattle.gl_opc.specs.Piece.{Code, Place, Piece, ◌⊕◌, start, after, nothing, ◌⨾◌, missing, op_piece, name_entry, text_op, name_op, int_op, with_name}
use Rattle.gl_opc.specs.TreeFaults.{Fault, at_stmt}
use Rattle.gl_wire.specs.Symbols.{place_of}

-- the first unknown name, or else what is linked
abbrev pub ended : List Fault → State → Step State
ended [] s = Ok s
ended (f ∷ fs) s = Err f

-- a piece, and so many statements, behind what is linked
abbrev pub behind : ℕ → Piece → State → State
behind n f s = record { code = s.code ⊕ f (after start s.code); begun = s.begun + n }

-- Codes and places

pub code_eq : {os os' : List Op} {ts ts' ns ns' : List Text} {zs zs' : List ℤ} → os ≡ os' → ts ≡ ts' → ns ≡ ns' → zs ≡ zs'
    → ◌≡◌ {A = Code} (record { ops = os; texts = ts; names = ns; ints = zs }) (record { ops = os'; texts = ts'; names = ns'; ints = zs' })
code_eq e f g h = rw (e, f, g, h) refl

pub state_eq : {x y : Code} {i j : ℕ} → x ≡ y → i ≡ j → ◌≡◌ {A = State} (record { code = x; begun = i }) (record { code = y; begun = j })
state_eq e f = rw (e, f) refl

place_eq : {a d a' d' : ℕ} {b c b' c' : List Text} → a ≡ a' → b ≡ b' → c ≡ c' → d ≡ d'
    → ◌≡◌ {A = Place} (record { address = a; texts = b; names = c; integer = d }) (record { address = a'; texts = b'; names = c'; integer = d' })
place_eq e f g h = rw (e, f, g, h) refl

longer : {A : Type 0} (n : ℕ) (xs ys : List A) → n + length (xs ++ ys) ≡ (n + length xs) + length ys
longer n xs ys = omega (arith, length-append xs ys)

pub after-⊕ : (at : Place) (x y : Code) → after at (x ⊕ y) ≡ after (after at x) y
after-⊕ at x y =
    place_eq (longer at.address x.ops y.ops) (sym (append_assoc at.texts x.texts y.texts)) (sym (append_assoc at.names x.names y.names)) (longer at.integer x.ints y.ints)

pub ⊕-assoc : (x y z : Code) → (x ⊕ y) ⊕ z ≡ x ⊕ (y ⊕ z)
⊕-assoc x y z =
    code_eq (append_assoc x.ops y.ops z.ops) (append_assoc x.texts y.texts z.texts) (append_assoc x.names y.names z.names) (append_assoc x.ints y.ints z.ints)

pub ⊕-nothing : (x : Code) → x ⊕ nothing start ≡ x
⊕-nothing x = code_eq (append-nil x.ops) (append-nil x.texts) (append-nil x.names) (append-nil x.ints)

-- What is behind what is behind

pub behind-behind : (n m : ℕ) (f g : Piece) (s : State) → behind m g (behind n f s) ≡ behind (n + m) (f ⨾ g) s
behind-behind n m f g s =
    let x : Code = f (after start s.code) in
    state_eq (ap (λ at. (s.code ⊕ x) ⊕ g at) (after-⊕ start s.code x) ∙ ⊕-assoc s.code x (g (after (after start s.code) x))) (omega arith)

pub behind-nothing : (s : State) → behind 0 nothing s ≡ s
behind-nothing s = state_eq (⊕-nothing s.code) (add-zero s.begun)

pub behind-started : (n : ℕ) (f : Piece) (s : State) → behind n f (started s) ≡ behind (suc n) f s
behind-started n f s = state_eq refl (omega arith)

-- What is added

pub added_op : (o : Op) (s : State) → op_added o s ≡ behind 0 (op_piece o) s
added_op o s = state_eq (code_eq refl (sym (append-nil s.code.texts)) (sym (append-nil s.code.names)) (sym (append-nil s.code.ints))) (sym (add-zero s.begun))

-- an entry of a pool, behind which no other comes
pub alone : (pool more : List Text) → pool ++ more ≡ pool ++ (more ++ [])
alone pool more = ap (λ xs. pool ++ xs) (sym (append-nil more))

pub added_text_op : (kind : ℕ → Op) (t : Text) (s : State) → text_op_added kind t s ≡ behind 0 (text_op kind t) s
added_text_op kind t s =
    state_eq (code_eq refl (alone s.code.texts (missing s.code.texts t)) (sym (append-nil s.code.names)) (sym (append-nil s.code.ints))) (sym (add-zero s.begun))

pub added_name_op : (kind : ℕ → Op) (n : Text) (s : State) → name_op_added kind n s ≡ behind 0 (name_op kind n) s
added_name_op kind n s =
    state_eq (code_eq refl (sym (append-nil s.code.texts)) (alone s.code.names (missing s.code.names n)) (sym (append-nil s.code.ints))) (sym (add-zero s.begun))

pub added_int_op : (kind : ℕ → Op) (z : ℤ) (s : State) → int_op_added kind z s ≡ behind 0 (int_op kind z) s
added_int_op kind z s =
    state_eq (code_eq (ap (λ k. s.code.ops ++ kind k ∷ []) (sym (zero-add (length s.code.ints)))) (sym (append-nil s.code.texts)) (sym (append-nil s.code.names)) refl)
    (sym (add-zero s.begun))

-- Steps

pub bind_assoc : {A B C : Type 0} (x : Step A) (f : A → Step B) (g : B → Step C) → ((x >>= f) >>= g) ≡ (x >>= λ a. f a >>= g)
bind_assoc (Ok x) f g = refl
bind_assoc (Err e) f g = refl

-- one step after another
pub join : (x : Step State) (k : State → Step State) (fs gs : List Fault) (n m : ℕ) (f g : Piece) (s : State)
    → x ≡ ended fs (behind n f s) → k (behind n f s) ≡ ended gs (behind m g (behind n f s)) → (x >>= k) ≡ ended (fs ++ gs) (behind (n + m) (f ⨾ g) s)
join x k [] gs n m f g s e h = rw e (h ∙ ap (λ t. ended gs t) (behind-behind n m f g s))
join x k (u ∷ fs) gs n m f g s e h = rw e refl

-- what is added after a step
pub join_added : (x : Step State) (k : State → State) (fs : List Fault) (n : ℕ) (f g : Piece) (s : State)
    → x ≡ ended fs (behind n f s) → k (behind n f s) ≡ behind 0 g (behind n f s) → (x >>= λ t. Ok (k t)) ≡ ended fs (behind n (f ⨾ g) s)
join_added x k fs n f g s e h =
    join x (λ t. Ok (k t)) fs [] n 0 f g s e (ap (λ t. Ok t) h) ∙ rw (append-nil fs, add-zero n) refl

-- a step after what is added
pub join_after : (k : State → Step State) (t : State) (gs : List Fault) (m : ℕ) (f g : Piece) (s : State)
    → t ≡ behind 0 f s → k (behind 0 f s) ≡ ended gs (behind m g (behind 0 f s)) → k t ≡ ended gs (behind m (f ⨾ g) s)
join_after k t gs m f g s e h = ap k e ∙ (h ∙ ap (λ u. ended gs u) (behind-behind 0 m f g s ∙ ap (λ n. behind n (f ⨾ g) s) (zero-add m)))

-- a step in which no statement begins, and one after it
pub join_first : (x : Step State) (k : State → Step State) (fs gs : List Fault) (m : ℕ) (f g : Piece) (s : State)
    → x ≡ ended fs (behind 0 f s) → k (behind 0 f s) ≡ ended gs (behind m g (behind 0 f s)) → (x >>= k) ≡ ended (fs ++ gs) (behind m (f ⨾ g) s)
join_first x k fs gs m f g s e h = join x k fs gs 0 m f g s e h ∙ ap (λ n. ended (fs ++ gs) (behind n (f ⨾ g) s)) (zero-add m)

-- the steps of a statement
pub begins : (x : Step State) (fs : List Fault) (n : ℕ) (f : Piece) (s : State) → x ≡ ended fs (behind n f (started s)) → x ≡ ended fs (behind (suc n) f s)
begins x fs n f s e = e ∙ ap (λ t. ended fs t) (behind-started n f s)

-- The names of one statement

abbrev pub ended_at : ℕ → List Unknown → State → Step State
ended_at i us s = ended (map (at_stmt i) us) s

pub join_at : (i : ℕ) (x : Step State) (k : State → Step State) (us vs : List Unknown) (f g : Piece) (s : State)
    → x ≡ ended_at i us (behind 0 f s) → k (behind 0 f s) ≡ ended_at i vs (behind 0 g (behind 0 f s)) → (x >>= k) ≡ ended_at i (us ++ vs) (behind 0 (f ⨾ g) s)
join_at i x k us vs f g s e h =
    join x k (map (at_stmt i) us) (map (at_stmt i) vs) 0 0 f g s e h ∙ ap (λ fs. ended fs (behind 0 (f ⨾ g) s)) (sym (map-append (at_stmt i) us vs))

-- two steps, and an opcode
pub join_both : (i : ℕ) (o : Op) (x : Step State) (k : State → Step State) (us vs : List Unknown) (f g : Piece) (s : State)
    → x ≡ ended_at i us (behind 0 f s) → k (behind 0 f s) ≡ ended_at i vs (behind 0 g (behind 0 f s))
    → ((x >>= k) >>= λ t. Ok (op_added o t)) ≡ ended_at i (us ++ vs) (behind 0 (f ⨾ (g ⨾ op_piece o)) s)
join_both i o x k us vs f g s e h =
    bind_assoc x k _
    ∙ join_at i x (λ t. k t >>= λ u. Ok (op_added o u)) us vs f (g ⨾ op_piece o) s e
    (join_added (k (behind 0 f s)) (op_added o) (map (at_stmt i) vs) 0 g (op_piece o) (behind 0 f s) h (added_op o _))

-- a name that is looked up first; the piece is by what is found
pub join_known : {A : Type 0} (piece : Option A → Piece) (found : Option A) (i : ℕ) (kind : Kind) (n : Text) (k : A → Step State) (gs : List Fault) (m : ℕ) (s : State)
    → ((x : A) → k x ≡ ended gs (behind m (piece (Some x)) s))
    → (known i kind n found >>= k) ≡ ended (map (at_stmt i) (unless_known (is_some found) kind n) ++ gs) (behind m (piece found) s)
join_known piece (Some x) i kind n k gs m s h = h x
join_known piece None i kind n k gs m s h = refl

pub join_known_at : {A : Type 0} (piece : Option A → Piece) (found : Option A) (i : ℕ) (kind : Kind) (n : Text) (k : A → Step State) (us : List Unknown) (s : State)
    → ((x : A) → k x ≡ ended_at i us (behind 0 (piece (Some x)) s))
    → (known i kind n found >>= k) ≡ ended_at i (unless_known (is_some found) kind n ++ us) (behind 0 (piece found) s)
join_known_at piece (Some x) i kind n k us s h = h x
join_known_at piece None i kind n k us s h = refl

-- an entry of the names, by the place of which a piece goes on
pub named_behind : (n : Text) (m : ℕ) (f : ℕ → Piece) (s : State) → behind m (f (place_of s.code.names n)) (name_added n s) ≡ behind m (with_name n f) s
named_behind n m f s =
    let g : Piece = f (place_of s.code.names n) in
    let same : name_added n s ≡ behind 0 (name_entry n) s = state_eq (code_eq (sym (append-nil s.code.ops)) (sym (append-nil s.code.texts)) refl (sym (append-nil s.code.ints))) (sym (add-zero s.begun)) in
    ap (λ t. behind m g t) same ∙ (behind-behind 0 m (name_entry n) g s ∙ ap (λ k. behind k (with_name n f) s) (zero-add m))
