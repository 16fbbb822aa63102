-- The bytes between two positions of a buffer, once the first are taken, and after a read behind them.
-- Assumes nothing.
use Rattle.std.proofs.Common.{◌≡◌, ℕ, ◌+◌, ◌-◌, ◌≤◌, List, ◌++◌, length, take, drop, slice_range, refl, ap, ◌∙◌, arith, length-append, length-drop}
use Rattle.std.proofs.lemmas.List.{take_at, drop_at, take-append-le, drop-take, drop-drop, length-take-le}
use Rattle.std.specs.List.{copy_within}
use borrow.Rule.Slice.PartMut.{put_mid, post_of}
use lib.Seq.{take-add}

pub length-window : (xs : List ℕ) (start end : ℕ) → end ≤ length xs → length (slice_range xs start end) ≡ end - start
length-window xs start end within = length-take-le (end - start) (drop start xs) (simp length-drop (omega arith))

pub taken : (xs : List ℕ) (start end count : ℕ) → count ≤ end - start → slice_range xs (start + count) end ≡ drop count (slice_range xs start end)
taken xs start end count few =
    let parts : end - start ≡ count + (end - (start + count)) = omega arith in
    rw (parts, drop-take count (end - (start + count)) (drop start xs), drop-drop count start xs) refl

-- bytes written behind a window
grown : (xs ys : List ℕ) (end k n : ℕ) → end ≤ length xs → n ≤ length ys → slice_range (put_mid end k xs ys) 0 (end + n) ≡ take end xs ++ take n ys
grown xs ys end k n within few =
    let front = length-take-le end xs within in
    let all : end + n - 0 ≡ end + n = omega arith in
    rw (
      all,
      take-add end n (take end xs ++ (ys ++ post_of end k xs)),
      take_at (take end xs) (ys ++ post_of end k xs) end front,
      drop_at (take end xs) (ys ++ post_of end k xs) end front,
      take-append-le n ys (post_of end k xs) few,
    ) refl

-- a window that was copied to the front, and bytes written behind it
pub moved_on : (xs ys : List ℕ) (start end k n : ℕ) → start ≤ end → end ≤ length xs → n ≤ length ys
    → slice_range (put_mid (end - start) k (copy_within xs start end 0) ys) 0 (end - start + n) ≡ slice_range xs start end ++ take n ys
moved_on xs ys start end k n ordered within few =
    let window = length-window xs start end within in
    let front = take_at (slice_range xs start end) (drop (0 + (end - start)) xs) (end - start) window in
    let size : end - start ≤ length (copy_within xs start end 0) = simp length-append (omega arith) in
    grown (copy_within xs start end 0) ys (end - start) k n size few ∙ ap (λ (s : List ℕ). s ++ take n ys) front
