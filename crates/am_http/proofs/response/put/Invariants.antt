use Rattle.std.proofs.Common.{◌≡◌, ◌++◌, ◌+◌, take, vec_len, vec_capacity}
use Rattle.am_http.proofs.response.put.Given as goal

abbrev pub invariant-loop-byte : goal.invariant-loop-byte
invariant-loop-byte l = record {
  items : l.into.items ≡ l.initial.into.items ++ take l.byte-index l.bytes;
  len : vec_len l.into ≡ vec_len l.initial.into + l.byte-index;
  capacity : vec_capacity l.into ≡ vec_capacity l.initial.into;
}
