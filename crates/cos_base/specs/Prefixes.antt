-- Beginnings of lists, as byte_streams has them, and what follows of them.
pub use Rattle.byte_streams.specs.Prefixes.{IsPrefix}
pub use Rattle.byte_streams.proofs.Prefixes.{IsPrefix-same, IsPrefix-rest, IsPrefix-front, IsPrefix-length, IsPrefix-trans, IsPrefix-longer}
