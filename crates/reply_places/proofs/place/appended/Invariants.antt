use Rattle.std.proofs.Common.{◌≡◌, ◌+◌, ◌++◌, take}
use Rattle.reply_places.proofs.place.appended.Given as goal

-- the bytes so far were appended
abbrev pub invariant-loop-byte : goal.invariant-loop-byte
invariant-loop-byte l =
    (l.buf.items ≡ l.fn.buf.items ++ take l.byte-index l.bytes)
    × (l.buf.len ≡ l.fn.buf.len + l.byte-index)
    × (l.buf.ptr ≡ l.fn.buf.ptr)
    × (l.buf.cap ≡ l.fn.buf.cap)
