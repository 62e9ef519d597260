-- Lists of steps on which right and wrong stores are told apart (`Wrong`, and more of them in the crate `computed_runs`). Each is played on
-- two servers and two clients.
use Rattle.std.specs.Prelude.{ℕ, List, [], ◌∷◌, ◌++◌}
use Rattle.claim.specs.Steps.{Step, beginning-write, beginning-read, request, reply, losing, resending}
use Rattle.claim.specs.WrongStores.{second}

-- a request and its reply at each of some targets, one after another
abbrev pub visits : ℕ → List ℕ → List Step
visits q [] = []
visits q (i ∷ targets) = request q i ∷ reply q i ∷ visits q targets

-- of each method a READ of both servers
abbrev pub read_by_a : ℕ → List Step
read_by_a q = beginning-read q 3 ∷ visits q (0 ∷ 1 ∷ [])

abbrev pub read_by_b : ℕ → List Step
read_by_b q = beginning-read q 3 ∷ visits q (16 ∷ 0 ∷ 1 ∷ [])

abbrev pub read_by_c : ℕ → List Step
read_by_c q = beginning-read q 3 ∷ visits q (0 ∷ 1 ∷ 16 ∷ [])

-- a WRITE of both, and one of server 0; every WRITE here has badge 7
abbrev pub write_both : ℕ → List Step
write_both q = beginning-write q 3 7 second ∷ visits q (0 ∷ 1 ∷ 16 ∷ [])

abbrev pub write_one : ℕ → List Step
write_one q = beginning-write q 1 7 second ∷ visits q (0 ∷ 16 ∷ [])

-- a WRITE and then a READ, by each method; client 0 reads by A and writes by B and C
abbrev pub then_read_by_a : List Step
then_read_by_a = write_both 1 ++ read_by_a 0

abbrev pub then_read_by_b : List Step
then_read_by_b = write_both 0 ++ read_by_b 1

abbrev pub then_read_by_c : List Step
then_read_by_c = write_both 0 ++ read_by_c 1

-- by C, a WRITE of server 0 and then a READ of both
abbrev pub then_read_of_both : List Step
then_read_of_both = write_one 0 ++ read_by_c 1

-- by C, a WRITE that has its tag and not its answer; then two READs, one after the other
abbrev pub two_reads : List Step
two_reads = beginning-write 0 3 7 second ∷ visits 0 (0 ∷ 1 ∷ []) ++ (request 0 16 ∷ read_by_c 1 ++ read_by_c 1)

-- by B, a READ of server 1, and then a WRITE of server 0
abbrev pub then_write : List Step
then_write = beginning-read 1 2 ∷ visits 1 (16 ∷ 1 ∷ []) ++ write_one 0

-- by C, a WRITE that the coordinator has before server 1, and then a READ
abbrev pub hasty : List Step
hasty = beginning-write 0 3 7 second ∷ visits 0 (0 ∷ 16 ∷ []) ++ read_by_c 1

-- by B, a READ that has its keys, and then a setpoint that comes to server 0 before the READ does
abbrev pub crossing : List Step
crossing = beginning-read 1 3 ∷ visits 1 (16 ∷ []) ++ (beginning-write 0 3 7 second ∷ request 0 0 ∷ visits 1 (0 ∷ 1 ∷ []))

-- a READ that has a reply more than it needs, and one that has not all
abbrev pub reply_more : List Step
reply_more = read_by_a 0 ++ (reply 0 1 ∷ [])

abbrev pub reply_less : List Step
reply_less = beginning-read 1 3 ∷ visits 1 (16 ∷ 0 ∷ [])

-- a WRITE whose request was delivered, and one whose acknowledgements are in
abbrev pub request_only : List Step
request_only = beginning-write 0 1 7 second ∷ request 0 0 ∷ []

abbrev pub acknowledged : ℕ → List Step
acknowledged q = beginning-write q 1 7 second ∷ visits q (0 ∷ [])

-- two WRITEs, the second begun when the first was acknowledged, that come to the coordinator the other way round
abbrev pub overtaken : List Step
overtaken = acknowledged 0 ++ (acknowledged 1 ++ (request 1 16 ∷ request 0 16 ∷ []))

-- a begin of a client that is at a WRITE, and of one that is at a READ
abbrev pub write_twice : List Step
write_twice = beginning-write 1 1 7 second ∷ beginning-write 1 2 7 second ∷ []

abbrev pub read_twice : List Step
read_twice = beginning-read 1 1 ∷ beginning-read 1 2 ∷ []

-- a reply to a client that is at nothing
abbrev pub reply_only : List Step
reply_only = reply 1 0 ∷ []

-- the request at each of some targets is lost and sent again, and so is its reply, once each; then both come
abbrev pub lossy_visits : ℕ → List ℕ → List Step
lossy_visits q [] = []
lossy_visits q (i ∷ targets) =
    losing q i ∷ resending q i ∷ request q i ∷ losing q i ∷ resending q i ∷ request q i ∷ reply q i ∷ lossy_visits q targets

-- a WRITE of server 0 and then a READ of both, by each method
abbrev pub lossy_write : ℕ → List Step
lossy_write q = beginning-write q 1 7 second ∷ lossy_visits q (0 ∷ 16 ∷ [])

abbrev pub lossy_by_a : List Step
lossy_by_a = lossy_write 1 ++ (beginning-read 0 3 ∷ lossy_visits 0 (0 ∷ 1 ∷ []))

abbrev pub lossy_by_b : List Step
lossy_by_b = lossy_write 0 ++ (beginning-read 1 3 ∷ lossy_visits 1 (16 ∷ 0 ∷ 1 ∷ []))

abbrev pub lossy_by_c : List Step
lossy_by_c = lossy_write 0 ++ (beginning-read 1 3 ∷ lossy_visits 1 (0 ∷ 1 ∷ 16 ∷ []))

-- by C, a WRITE whose request at server 1 is lost and not sent again, and then a READ
abbrev pub lost_request : List Step
lost_request = beginning-write 0 3 7 second ∷ losing 0 1 ∷ visits 0 (0 ∷ 16 ∷ []) ++ read_by_c 1

-- a READ that loses a reply and does not ask again, and one that loses a request and asks again, with a reply more than it needs
abbrev pub lost_reply : List Step
lost_reply = beginning-read 0 3 ∷ request 0 0 ∷ losing 0 0 ∷ reply 0 0 ∷ visits 0 (1 ∷ [])

abbrev pub asked_again : List Step
asked_again = beginning-read 0 1 ∷ losing 0 0 ∷ resending 0 0 ∷ visits 0 (0 ∷ []) ++ (reply 0 0 ∷ [])

-- a WRITE that has its tag, whose reply is lost, and that asks for it again; and a whole WRITE of client 1 in between
abbrev pub entered_again : List Step
entered_again = acknowledged 0 ++ (request 0 16 ∷ losing 0 16 ∷ resending 0 16 ∷ visits 0 (16 ∷ []))

abbrev pub entered_between : List Step
entered_between = acknowledged 0 ++ (request 0 16 ∷ losing 0 16 ∷ resending 0 16 ∷ write_one 1 ++ visits 0 (16 ∷ []))
