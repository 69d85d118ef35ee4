-- Each low that entries tell begins a buffer; and when the lows are those of the edges from 0 on.
use Rattle.std.proofs.Common.{◌≡◌, ◌+◌, ◌<◌, ℕ, zero, suc, List, [], ◌∷◌, ◌++◌, fold, drop, get_or, length, length-append, sym, ap, ◌∙◌, arith}
use Rattle.std.specs.List.{range_with_len}
use Rattle.std.proofs.lemmas.List.{append_assoc, at_drop_more, length-set}
use Rattle.std.proofs.lemmas.List.FromFn.{length-range_with_len}
use Rattle.tuple_edge.specs.declared.packet.Entry.{Entry}
use Rattle.tuple_edge.specs.declared.packet.Entry.TheVariants as entry
use Rattle.ack_buffer.specs.Buffer.{BufferView, produced_on}
use Rattle.catch_up.specs.Rebuild.{buffer_of, buffers_in, buffers_step, lows_in, without_spare}

lows_made : (bs : List BufferView) (es : List Entry) → length (fold buffers_step bs es) ≡ length bs + length (lows_in es)
lows_made bs [] = omega arith
lows_made bs (entry.Mark q upto ∷ es) = lows_made bs es
lows_made bs (entry.Count count ∷ es) = lows_made bs es
lows_made bs (entry.Head q n x ∷ es) = lows_made bs es
lows_made bs (entry.Low t low produced ∷ es) =
    let later : length (fold buffers_step (buffers_step bs (entry.Low t low produced)) es) ≡ length (buffers_step bs (entry.Low t low produced)) + length (lows_in es) = lows_made (buffers_step bs (entry.Low t low produced)) es in
    let more : length (buffers_step bs (entry.Low t low produced)) ≡ length bs + 1 = length-append bs _ in
    omega (arith, later, more)
lows_made bs (entry.Kept t n x ∷ es) =
    let later : length (fold buffers_step (buffers_step bs (entry.Kept t n x)) es) ≡ length (buffers_step bs (entry.Kept t n x)) + length (lows_in es) = lows_made (buffers_step bs (entry.Kept t n x)) es in
    let same : length (buffers_step bs (entry.Kept t n x)) ≡ length bs = length-set bs t (without_spare (produced_on (buffer_of bs t) x)) in
    omega (arith, later, same)
lows_made bs (entry.Keyed k slot a b c ∷ es) = lows_made bs es

pub lows_begin : (es : List Entry) → length (buffers_in es) ≡ length (lows_in es)
lows_begin es = omega (arith, lows_made [] es)

-- a low at a place is the first of those from there on
pub low_at : (es : List Entry) (i t low produced : ℕ) (d : Entry) → i < length es → get_or es i d ≡ entry.Low t low produced → lows_in (drop i es) ≡ t ∷ lows_in (drop (i + 1) es)
low_at es i t low produced d here is = at_drop_more lows_in es i d here ∙ ap (λ e. lows_in (e ∷ drop (i + 1) es)) is

-- ---- numbers that go up from a on

-- what follows k of them is the next one
pub comes_next : (a k n t : ℕ) (xs : List ℕ) → range_with_len a k ++ t ∷ xs ≡ range_with_len a n → t ≡ a + k
comes_next a zero zero t xs same = let z : ⊥ = cc same in absurd z
comes_next a zero (suc n) t xs same = let first : t ≡ a = cc same in omega (arith, first)
comes_next a (suc k) zero t xs same = let z : ⊥ = cc same in absurd z
comes_next a (suc k) (suc n) t xs same =
    let rest : range_with_len (a + 1) k ++ t ∷ xs ≡ range_with_len (a + 1) n = cc same in
    omega (arith, comes_next (a + 1) k n t xs rest)

pub as_many : (a k n : ℕ) → range_with_len a k ≡ range_with_len a n → k ≡ n
as_many a k n same = sym (length-range_with_len a k) ∙ ap length same ∙ length-range_with_len a n

pub one_more : (a k n : ℕ) → a + k ≡ n → range_with_len a (suc k) ≡ range_with_len a k ++ n ∷ []
one_more a zero n same = let first : a ≡ n = omega (arith, same) in ap (λ t. t ∷ []) first
one_more a (suc k) n same = ap (λ xs. a ∷ xs) (one_more (a + 1) k n (omega (arith, same)))

pub one_more_before : (k : ℕ) (xs : List ℕ) → range_with_len 0 (k + 1) ++ xs ≡ range_with_len 0 k ++ k ∷ xs
one_more_before k xs =
    let more : k + 1 ≡ suc k = omega arith in
    ap (λ n. range_with_len 0 n ++ xs) more ∙ ap (λ ys. ys ++ xs) (one_more 0 k k (omega arith)) ∙ append_assoc (range_with_len 0 k) (k ∷ []) xs
