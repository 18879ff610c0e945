-- Where a network listens.
use Rattle.std.specs.Prelude.{◌≡◌, ℕ, ◌<◌, [], ◌∷◌}
use Rattle.std.specs.declared.net.socket_addr.SocketAddr.{SocketAddr}
use Rattle.std.specs.Net.Addr.{IsV4And, ipv4_octets}
use Rattle.std.specs.Net.Socket.{socket_ip, socket_port}

-- the address is 127.0.0.1 with the port that was asked for, or with any port if 0 was
abbrev pub IsLocal : ℕ → SocketAddr → Type 0
IsLocal port address =
    IsV4And (socket_ip address) (λ ip. ipv4_octets ip ≡ 127 ∷ 0 ∷ 0 ∷ 1 ∷ []) × (0 < port → socket_port address ≡ port)
