use Rattle.std.proofs.Common.{◌≡◌, ◌-◌, ◌≤◌, ◌++◌, replicate}
use Rattle.reply_places.proofs.place.completed.Given as goal

-- zeros were appended so far
abbrev pub invariant-loop : goal.invariant-loop
invariant-loop l =
    (l.buf.items ≡ l.fn.buf.items ++ replicate (l.counter - l.fn.buf.len) 0)
    × (l.fn.buf.len ≤ l.counter)
    × (l.buf.len ≡ l.counter)
    × (l.buf.ptr ≡ l.fn.buf.ptr)
    × (l.buf.cap ≡ l.fn.buf.cap)
