-- What a pool's contracts say.
pub mod Class
pub mod Pool
pub mod Place
pub mod VacantSet
