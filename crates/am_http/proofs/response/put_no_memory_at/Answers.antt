use Rattle.std.proofs.Common.{sym}
use Rattle.am_http.proofs.NoMemoryTexts.{no_memory_at_pieces}
use Rattle.am_http.proofs.response.put_no_memory_at.Goals as goal

pub returns-clause-text : goal.returns-clause-text
returns-clause-text c =
    rw (
      c.put-5.ensures.items,
      c.put-4.ensures.items,
      c.as_bytes-2.ensures.value,
      c.digit.ensures.text,
      c.put-3.ensures.items,
      c.put-2.ensures.items,
      c.as_bytes.ensures.value,
      c.format.ensures.text,
      c.put.ensures.items,
      c.clear.ensures.items,
    )
    (sym (no_memory_at_pieces c.args.at c.args.stored))
