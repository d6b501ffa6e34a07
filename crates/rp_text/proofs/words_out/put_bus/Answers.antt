use Rattle.rp_text.proofs.Puts.{put-nine, same-number, same-bytes}
use Rattle.rp_text.proofs.words_out.put_bus.Goals as goal

pub returns-clause-bytes : goal.returns-clause-bytes
returns-clause-bytes c =
    put-nine _ _ _ _ _ _ _ _ _ _ _ _ _ _ _ _ _ _ _ c.put_decimal.ensures.bytes c.put_hex.ensures.bytes c.put_hex-2.ensures.bytes
    (same-number _ _ _ _ c.from.ensures c.put_decimal-2.ensures.bytes) (same-number _ _ _ _ c.from-2.ensures c.put_decimal-3.ensures.bytes) (same-number _ _ _ _ c.from-3.ensures c.put_decimal-4.ensures.bytes)
    c.put_decimal-5.ensures.bytes (same-bytes _ _ _ _ c.as_slice.ensures c.put_bytes.ensures.bytes) (same-bytes _ _ _ _ c.as_slice-2.ensures c.put_bytes-2.ensures.bytes)
